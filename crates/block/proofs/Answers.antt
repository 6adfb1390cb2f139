-- What the reader answers and leaves in the buffer, by what its parts found.
use Prim.Native.Nat.{ℕ, ◌+◌, ◌≤◌, ◌<◌}
use Rattle.block.specs.declared.Extent.{Extent}
use native.Mathlib.Nat.{zero-add}
use native.Mathlib.Omega.{arith}
use mathlib.Core.Path.{◌≡◌, refl, sym, ap, ◌∙◌}
use mathlib.Core.Bool.{true, false}
use mathlib.Core.List.{List}
use Rattle.std.specs.Prelude.{Option, None, Some, Result, Err, Ok, ⊤}
use lib.ListN.{length, length-map}
use lib.Seq.{sets}
use Rattle.lists.specs.Places.{first_from}
use Rattle.lists.proofs.PlaceLaws.{none_first, length-tabulate}
use Rattle.lists.proofs.BufferLaws.{put-room}
use Rattle.refusal.specs.declared.Reason.{Reason}
use Rattle.refusal.specs.declared.Reason.TheVariants.{WrongSize, NoRoom, NoStart, WrongCountdown, LostByte}
use Rattle.refusal.specs.declared.Refusal.{Refusal}
use Rattle.refusal.specs.Refusal.{refusal_at}
use Rattle.refusal.specs.Outcome.{Outcome, accepted, refuse, refused_with, outcome_of}
use Rattle.refusal.proofs.PromiseLaws.{promise-refused, promise-accepted}
use Rattle.refusal.proofs.OutcomeLaws.{refuse_first-accepted, if_room-no_room, if_room-room}
use Rattle.pulse.specs.declared.Thresholds.{Thresholds}
use Rattle.pulse.specs.declared.Class.{Class}
use Rattle.pulse.specs.Pulse.{class_of, classes}
use Rattle.start.specs.declared.Copies.{Copies}
use Rattle.start.specs.Start.{find_start, start_at}
use Rattle.start.specs.Copies.{copy_two, end_of, locate_copies}
use Rattle.start.proofs.CopiesLaws.{locate_copies-accepted}
use Rattle.block.specs.Block.{wrong_size}
use Rattle.block.specs.Reading.{is_miscounted, is_lost, causes_at, value_at, values_at, sum_holds, BlockRead, extent_of, payload_of, block_at, read_copies, read_at, read_from, read_block, BlockPromise}
use Rattle.block.specs.private.Checks.{countdown_checked, repairs, Flagged, NoneLost, Checked}
use Rattle.block.proofs.RuleLaws.{there-refused, values-refused, values-given}

-- ---- Rules 3 to 5, on copies that were located

-- what is known where the values passed
pub check-passed : {cs : List Class} {one two n repaired : ℕ} {row : List ℕ} {a : Result ℕ Refusal} → Checked cs one two n a row → a ≡ Ok repaired
    → NoneLost cs one two n × (repaired ≡ repairs cs one two n) × Flagged cs one two n row
check-passed {cs} {one} {two} {n} {repaired} h g =
    let w = values-given cs one two n (repairs cs one two n) repaired (sym (ap outcome_of g) ∙ h.says) in
    (λ i l. none_first (is_lost cs one two) (n + 1) 0 w.0 i (omega arith) (omega arith), w.2, h.flagged w.0)

module _ (t : Thresholds) (strip : List ℕ) (p n : ℕ) (out : List ℕ) {two : ℕ} (second : two ≡ copy_two p n) where
  abbrev cs : List Class
  cs = classes t strip

  abbrev q : ℕ
  q = copy_two p n

  module _ {c : Result ⊤ Refusal} (e : outcome_of c ≡ countdown_checked cs p two tt) where
    pub read_copies-wrong_countdown : {r : Refusal} → c ≡ Err r → BlockPromise (read_copies cs p n) out (Err r) out
    unfolding read_copies
    read_copies-wrong_countdown {r} g =
        let counted = rw (g, second) at e in
        let o : read_copies cs p n ≡ refused_with r = there-refused (λ _. WrongCountdown) (first_from (is_miscounted cs p q) 9 0) tt _ r counted in
        promise-refused extent_of payload_of (read_copies cs p n) out o refl

    module _ (g : c ≡ Ok tt) {a : Result ℕ Refusal} {row : List ℕ} (h : Checked cs p two n a row) where
      none : first_from (is_miscounted cs p q) 9 0 ≡ None
      none =
          let counted = rw (g, second) at e in
          (refuse_first-accepted WrongCountdown (first_from (is_miscounted cs p q) 9 0) (accepted tt) tt (sym counted)).0

      pub read_copies-unread : {r : Refusal} → a ≡ Err r → BlockPromise (read_copies cs p n) out (Err r) out
      unfolding read_copies
      read_copies-unread {r} k =
          let checked = rw second at h in
          let o : read_copies cs p n ≡ refused_with r =
          rw none
          (values-refused (λ i. LostByte (causes_at cs p q i)) (first_from (is_lost cs p q) (n + 1) 0) (sum_holds cs p q n) n (repairs cs p q n) _ r
          (sym (ap outcome_of k) ∙ checked.says))
          in
          promise-refused extent_of payload_of (read_copies cs p n) out o refl

      pub read_copies-accepted : {end repaired : ℕ} {out' : List ℕ} → end ≡ end_of p n → n ≤ length out → a ≡ Ok repaired
          → out' ≡ sets out 0 (values_at cs p two n)
          → BlockPromise (read_copies cs p n) out (Ok (record { n = n; start = p; end = end })) out'
      unfolding read_copies
      read_copies-accepted {repaired = repaired} last room k s =
          let checked = rw second at h in
          let w = values-given cs p q n (repairs cs p q n) repaired (sym (ap outcome_of k) ∙ checked.says) in
          let l : 0 + length (values_at cs p q n) ≡ n = zero-add _ ∙ length-tabulate (value_at cs p q) n 0 in
          let o : read_copies cs p n ≡ accepted (block_at p n (values_at cs p q n)) = rw (none, w.0, w.1) refl in
          promise-accepted extent_of payload_of (read_copies cs p n) out o (rw last refl)
          (rw second at s ∙ put-room out 0 (values_at cs p q n) (rw l room))

-- ---- Rule 2

module _ (t : Thresholds) (strip : List ℕ) (p n : ℕ) (out : List ℕ) {a : Result Copies Refusal} (e : outcome_of a ≡ locate_copies (length strip) p n) where
  pub read_at-cut_short : {r : Refusal} → a ≡ Err r → BlockPromise (read_at (classes t strip) p n) out (Err r) out
  unfolding read_at
  read_at-cut_short {r} g =
      let o : read_at (classes t strip) p n ≡ refused_with r = rw (length-map strip (class_of t), ← e, g) in
      promise-refused extent_of payload_of (read_at (classes t strip) p n) out o refl

  module _ {copies : Copies} (g : a ≡ Ok copies) where
    pub copies-there : (copies.two ≡ copy_two copies.one n) × (copies.end ≡ end_of copies.one n) × (copies.end ≤ length strip)
    copies-there =
        let within = locate_copies-accepted (length strip) p n copies (sym e ∙ ap outcome_of g) in
        rw (← within.1) (refl, refl, within.0)

    pub read_at-copies : (r : Result Extent Refusal) {out' : List ℕ} → BlockPromise (read_copies (classes t strip) copies.one n) out r out'
        → BlockPromise (read_at (classes t strip) p n) out r out'
    unfolding read_at
    read_at-copies r m =
        let within = locate_copies-accepted (length strip) p n copies (sym e ∙ ap outcome_of g) in
        rw (length-map strip (class_of t), ← e, g) (rw (← within.1) at m)

-- ---- Rule 1

refuses : (o : Outcome BlockRead) (out : List ℕ) (reason : Reason) {place : ℕ} {r : Refusal} → o ≡ refuse reason place → r ≡ refusal_at reason place
    → BlockPromise o out (Err r) out
refuses o out reason e q = promise-refused extent_of payload_of o out e (ap refused_with q)

module _ (cs : List Class) (from n : ℕ) (out : List ℕ) where
  abbrev outcome : Outcome BlockRead
  outcome = read_block cs (length out) from n

  pub read_block-wrong_size : {r : Refusal} → wrong_size n ≡ true → r ≡ refusal_at WrongSize 0 → BlockPromise outcome out (Err r) out
  unfolding read_block
  read_block-wrong_size t = refuses outcome out WrongSize (rw t)

  module _ (size : wrong_size n ≡ false) where
    pub read_block-no_room : {r : Refusal} → length out < n → r ≡ refusal_at NoRoom 0 → BlockPromise outcome out (Err r) out
    unfolding read_block
    read_block-no_room h = refuses outcome out NoRoom (rw (size, if_room-no_room (length out) n _ h))

    module _ (room : n ≤ length out) {f : Option ℕ} (e : start_at f ≡ find_start cs from) where
      pub read_block-NoStart : {r : Refusal} → f ≡ None → r ≡ refusal_at NoStart 0 → BlockPromise outcome out (Err r) out
      unfolding read_block read_from
      read_block-NoStart g = refuses outcome out NoStart (rw (size, if_room-room (length out) n _ room, ← e, g))

      pub read_block-found : {p : ℕ} (r : Result Extent Refusal) {out' : List ℕ} → f ≡ Some p → BlockPromise (read_at cs p n) out r out' → BlockPromise outcome out r out'
      unfolding read_block read_from
      read_block-found r g m = rw (size, if_room-room (length out) n _ room, ← e, g) m
