-- Packing: what the stores leave, and what the call comes to.
use Prim.Native.Nat.{ℕ, ◌+◌, ◌≤◌, ◌<◌}
use Rattle.std.specs.Prelude.{Err, Ok}
use native.Mathlib.Omega.{arith}
use mathlib.Core.Path.{◌≡◌, refl, sym, ◌∙◌}
use mathlib.Core.Bool.{true, false}
use mathlib.Core.List.{List, append_assoc}
use borrow.Rule.Slice.PartMut.{put_mid}
use lib.ListN.{length, get_or, set}
use lib.Seq.{sets, sets-eq, drop-drop}
use Rattle.lists.specs.Text.{low_first}
use Rattle.lists.proofs.BufferLaws.{put-room}
use Rattle.lists.proofs.LoopLaws.{Putting, put-begun, put_one, put-done, table_left, table-begun, table-next, table-over}
use Rattle.refusal.specs.declared.Reason.TheVariants.{WrongSize, NoRoom, WrongType}
use Rattle.refusal.specs.declared.Refusal.{Refusal}
use Rattle.refusal.specs.Refusal.{refusal_at}
use Rattle.refusal.specs.Promise.{Written}
use Rattle.refusal.proofs.PromiseLaws.{written-refused, written-accepted}
use Rattle.refusal.proofs.OutcomeLaws.{if_room-no_room, if_room-room}
use Rattle.header.specs.declared.Fields.{Fields}
use Rattle.header.specs.Header.{filled, header_bytes, wrong_name, wrong_type, pack_header}
use Rattle.header.proofs.HeaderLaws.{length-header}

-- ---- The name

-- values stored over a part of the output, as `copy_from_slice` and `fill` leave it
pub part-stored : (out values : List ℕ) (at : ℕ) {k : ℕ} {stored : List ℕ} → length values ≡ k → at + k ≤ length out → stored ≡ values
    → put_mid at k out stored ≡ sets out at values
part-stored out values at e h q = rw (q, ← e, drop-drop, ← append_assoc) (sym (sets-eq values out at (omega arith)))

module _ (before name : List ℕ) where
  abbrev pub NamePut : List ℕ → ℕ → Type 0
  NamePut header i = Putting before 5 (filled name) header (5 + i) (table_left (λ j. get_or name j 0x20) 187 i)

  pub name-begun : NamePut before 0
  unfolding filled
  name-begun = put-begun before 5 (5 + 0) _ _ refl (table-begun (λ j. get_or name j 0x20) 187)

  module _ {header : List ℕ} {i : ℕ} (u : NamePut header i) where
    pub name-next : {b : ℕ} → i < 187 → b ≡ get_or name i 0x20 → NamePut (set header (5 + i) b) (i + 1)
    name-next h e = rw e (put_one u (get_or name i 0x20) _ (table-next (λ j. get_or name j 0x20) 187 i h) (omega arith))

    pub name_done : 187 ≤ i → header ≡ sets before 5 (filled name)
    name_done h = put-done u (table-over (λ j. get_or name j 0x20) 187 i h)

-- ---- The whole header: the type, two words, the name

pub header-put : (out : List ℕ) (f : Fields) (name : List ℕ) {one two three : List ℕ} → one ≡ sets (set out 0 f.kind) 1 (low_first 2 f.start)
    → two ≡ sets one 3 (low_first 2 f.end) → three ≡ sets two 5 (filled name) → three ≡ sets out 0 (header_bytes f name)
unfolding header_bytes low_first
header-put out f name e g h = h ∙ rw (g, e)

-- ---- What packing comes to

module _ (out : List ℕ) (f : Fields) (name : List ℕ) where
  pub pack_header-wrong_size : {r : Refusal} → wrong_name (length name) ≡ true → r ≡ refusal_at WrongSize 0 → Written (pack_header (length out) f name) out (Err r) out
  unfolding pack_header
  pack_header-wrong_size t = written-refused (pack_header (length out) f name) out (rw t)

  module _ (right : wrong_name (length name) ≡ false) where
    pub pack_header-wrong_type : {r : Refusal} → wrong_type f.kind ≡ true → r ≡ refusal_at WrongType 0 → Written (pack_header (length out) f name) out (Err r) out
    unfolding pack_header
    pack_header-wrong_type t = written-refused (pack_header (length out) f name) out (rw (right, t))

    module _ (type : wrong_type f.kind ≡ false) where
      pub pack_header-no_room : {r : Refusal} → length out < 192 → r ≡ refusal_at NoRoom 0 → Written (pack_header (length out) f name) out (Err r) out
      unfolding pack_header
      pack_header-no_room h = written-refused (pack_header (length out) f name) out (rw (right, type, if_room-no_room (length out) 192 _ h))

      pub pack_header-whole : {out' : List ℕ} → 192 ≤ length out → out' ≡ sets out 0 (header_bytes f name)
          → Written (pack_header (length out) f name) out (Ok 192) out'
      unfolding pack_header
      pack_header-whole h e =
          let long = length-header f name in
          written-accepted (pack_header (length out) f name) out (rw (right, type, if_room-room (length out) 192 _ h)) long
          (e ∙ put-room out 0 (header_bytes f name) (omega arith))
