-- `header::shown_name` meets its contract: an empty part where unpacking refuses, and else the part from byte 5 on that is shown.
use Prim.Native.Nat.{◌≤◌}
use native.Mathlib.Omega.{arith}
use mathlib.Core.Path.{◌≡◌}
use borrow.Author.Rules.{rules}
use lib.ListN.{length}
use Rattle.header.proofs.HeaderLaws.{shown_count-shown}
use Rattle.header.proofs.Unpacking.{shown_name-refused, shown_name-long, shown_name-accepted}
use Rattle.header.proofs.shown_name.Goals as goal
use Rattle.header.proofs.shown_name.Goals.{After-shown_count-end, In-Ok}

-- the header is whole, and at most sixteen bytes are shown
long : (c : In-Ok) → length c.args.header.now ≡ 192
long c =
    shown_name-long c.args.header.now c.unpack_header.ensures c.in-Ok.is

count : (c : After-shown_count-end) → c.shown_count-end.result ≤ 16
count c = rw c.shown_count-end.ensures (shown_count-shown c.args.header.now 16).high

pub returns-in_default : goal.returns-in_default
returns-in_default c =
    let both = shown_name-refused c.args.header.now c.unpack_header.ensures c.in_default.is c.args.header.ref_ptr in
    record { bytes = both.0; place = both.1 }

pub shown_count-end-requires : goal.shown_count-end-requires
shown_count-end-requires c = let l = long c in omega arith

pub overflow_add-end : goal.overflow_add-end
overflow_add-end c = let l = count c in omega arith

pub slice_bounds-result-end-2 : goal.slice_bounds-result-end-2
slice_bounds-result-end-2 c =
    let l = shown_name-long c.args.header.now c.unpack_header.ensures c.in-Ok.is in
    let k = count c in
    search rules

pub returns : goal.returns
returns c =
    let both = shown_name-accepted c.args.header.now c.unpack_header.ensures c.in-Ok.is c.shown_count-end.ensures c.args.header.ref_ptr in
    record { bytes = both.0; place = both.1 }
