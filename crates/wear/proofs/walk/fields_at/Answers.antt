-- `wear::walk::fields_at` meets its contract: type and addresses stand in the first five bytes.
use Prim.Native.Nat.{ℕ}
use mathlib.Core.Path.{ap, ◌∙◌}
use Rattle.std.proofs.Common.{rules, tests}
use Rattle.std.proofs.lemmas.List.FromFn.{fill_by_all}
use Rattle.pulse.specs.Pulse.{fixed, classes}
use Rattle.start.specs.Copies.{copy_two}
use Rattle.block.specs.Reading.{value_at}
use Rattle.header.specs.Header.{fields_of}
use Rattle.wear.proofs.Steps.{fields-front}
use Rattle.wear.proofs.walk.fields_at.Goals as goal

pub returns : goal.returns
returns c =
    let byte = λ (i : ℕ). value_at (classes fixed c.args.strip.now) c.args.start (copy_two c.args.start 192) i in
    let e = fill_by_all byte c.from_fn.result 5 0 c.from_fn.ensures.items.long (λ k h. let a = c.from_fn.ensures.items.at k 0 h in search (rules, tests)) in
    c.fields_in.ensures ∙ ap fields_of e ∙ fields-front byte
