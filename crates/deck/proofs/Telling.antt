-- What the state after some pulses tells: what is said, the output and the working buffer, and the same after the end is told.
use Prim.Native.Nat.{ℕ, ◌+◌, ◌*◌, ◌/◌, ◌%◌, ◌≤◌, ◌<◌}
use native.Mathlib.Nat.{zero-add}
use native.Mathlib.Decide.{ℕ_discrete, dec_lt}
use native.Mathlib.Omega.{arith}
use mathlib.Core.Path.{◌≡◌, refl, sym, ap, ◌∙◌}
use mathlib.Core.Bool.{Bool, true, false, cond, ◌||◌}
use mathlib.Core.List.{List, []}
use Rattle.std.specs.Prelude.{None, Some}
use borrow.Author.Tests.{eq-eqb, ne_eqb, lt-ltb, le-ltb}
use lib.Dec.{eqb, ltb}
use lib.ListN.{length, get_or}
use Rattle.lists.specs.Places.{tabulate}
use Rattle.lists.specs.Buffer.{put_at}
use Rattle.lists.proofs.BoolLaws.{or_right}
use Rattle.lists.proofs.PlaceLaws.{tabulate-is}
use Rattle.lists.proofs.BufferLaws.{put_front}
use Rattle.refusal.specs.Outcome.{mapped, puts, and_then}
use Rattle.pulse.specs.declared.Class.{Class}
use Rattle.byte.specs.declared.ByteRead.{ByteRead}
use Rattle.start.specs.Start.{start_of, start_at, find_start}
use Rattle.start.specs.Copies.{byte_place, copy_two, end_of}
use Rattle.start.proofs.CopiesLaws.{locate_copies-cut_short, locate_copies-within}
use Rattle.block.specs.Reading.{extent_of, payload_of, read_copies, read_at, read_from}
use Rattle.deck.specs.Work.{value_byte, cause_byte}
use Rattle.deck.specs.Judge.{checks_of}
use Rattle.deck.specs.Step.{Phase, Seeking, InOne, Between, InTwo, Told, Standing, standing}
use Rattle.deck.specs.Calls.{ended_in, outcome_by, Silent, Answered, said_in}
use Rattle.deck.specs.Claim.{told_after, saying_with, out_with, kept, stands_at, work_byte, work_after}
use Rattle.deck.proofs.LeadLaws.{Found, found-start, never-found}
use Rattle.deck.proofs.WorkLaws.{Stands, settled}
use Rattle.deck.proofs.Running.{OneRead, TwoRead, After, one, two}

-- either byte of a place where a byte stands
stands-byte : (w : List ℕ) (b : ℕ) (r : ByteRead) → Stands w (b / 2) r → get_or w b 0 ≡ cond (eqb (b % 2) 0) (value_byte r) (cause_byte r)
stands-byte w b r s = elim (ℕ_discrete (b % 2) 0) [
  | yes e ↦ rw (eq-eqb (b % 2) 0 e) (ap (λ x. get_or w x 0) (let z : b ≡ 2 * (b / 2) = omega arith in z) ∙ s.value)
  | no e ↦ rw (ne_eqb (b % 2) 0 e) (ap (λ x. get_or w x 0) (let z : b ≡ 2 * (b / 2) + 1 = omega arith in z) ∙ s.cause)
]

module _ (cs : List Class) (n : ℕ) (w₀ o₀ : List ℕ) where
  abbrev taken : ℕ
  taken = length cs

  -- ---- The byte that stands at a place

  module _ (p x : ℕ) where
    stands-none : taken < byte_place p x + 20 → stands_at cs p n x ≡ None
    unfolding stands_at
    stands-none h = rw (lt-ltb taken (byte_place p x + 20) h)

    stands_one : byte_place p x + 20 ≤ taken → taken < byte_place (copy_two p n) x + 20 → stands_at cs p n x ≡ Some (one cs n w₀ o₀ p x)
    unfolding stands_at
    stands_one h l = rw (le-ltb taken (byte_place p x + 20) h, lt-ltb taken (byte_place (copy_two p n) x + 20) l, or_right (ltb x 9) true refl)

    stands-two : byte_place (copy_two p n) x + 20 ≤ taken → stands_at cs p n x ≡ Some (settled x (one cs n w₀ o₀ p x) (two cs n w₀ o₀ p x))
    unfolding stands_at
    stands-two h =
        rw (le-ltb taken (byte_place p x + 20) (omega arith), le-ltb taken (byte_place (copy_two p n) x + 20) h)
        (go (ltb x 9) (one cs n w₀ o₀ p x) (two cs n w₀ o₀ p x))
      where
        go : (t : Bool) (one two : ByteRead) → cond (t || false) (Some one) (Some (kept one two)) ≡ Some (cond t one (kept one two))
        go true one two = refl
        go false one two = refl

  -- ---- The working buffer

  -- byte by byte
  work-is : (w : List ℕ) → length w ≡ length w₀ → ((b : ℕ) → get_or w b 0 ≡ work_byte (start_of cs 0) cs n b (get_or w₀ b 0)) → w ≡ work_after cs n w₀
  unfolding work_after
  work-is w size h =
      let f : ℕ → ℕ = λ b. work_byte (start_of cs 0) cs n b (get_or w₀ b 0) in
      sym (ap (λ m. tabulate f m 0) (sym size) ∙ tabulate-is f w 0 (λ b l. ap f (zero-add b) ∙ sym (h b)))

  module _ (p i : ℕ) (w : List ℕ) (start : Found cs p) where
    -- in copy one, and between the copies
    work-one : OneRead cs n w₀ o₀ p i w → byte_place p i ≤ taken → taken < copy_two p n → ((x : ℕ) → i ≤ x → x < n + 10 → taken < byte_place p x + 20)
        → i ≤ n + 10 → w ≡ work_after cs n w₀
    work-one r past before ahead le = work-is w r.size (λ b. rw (found-start cs p start) (elim (dec_lt b (2 * (n + 10))) [
      | yes h ↦ rw (lt-ltb b (2 * (n + 10)) h) (elim (dec_lt (b / 2) i) [
        | yes l ↦ rw (stands_one p (b / 2) (omega arith) (omega arith)) (stands-byte w b (one cs n w₀ o₀ p (b / 2)) (r.stand (b / 2) l))
        | no l ↦ rw (stands-none p (b / 2) (ahead (b / 2) (omega arith) (omega arith))) (r.rest b (omega arith))
      ])
      | no h ↦ rw (le-ltb b (2 * (n + 10)) (omega arith)) (r.rest b (omega arith))
    ]))

    -- in copy two, and after it
    work-two : TwoRead cs n w₀ o₀ p i w → copy_two p n ≤ taken → ((x : ℕ) → x < i → byte_place (copy_two p n) x + 20 ≤ taken)
        → ((x : ℕ) → i ≤ x → x < n + 10 → taken < byte_place (copy_two p n) x + 20) → w ≡ work_after cs n w₀
    work-two r past done ahead = work-is w r.size (λ b. rw (found-start cs p start) (elim (dec_lt b (2 * (n + 10))) [
      | yes h ↦ rw (lt-ltb b (2 * (n + 10)) h) (elim (dec_lt (b / 2) i) [
        | yes l ↦ rw (stands-two p (b / 2) (done (b / 2) l))
            (stands-byte w b (settled (b / 2) (one cs n w₀ o₀ p (b / 2)) (two cs n w₀ o₀ p (b / 2))) (r.done (b / 2) l))
        | no l ↦ rw (stands_one p (b / 2) (omega arith) (ahead (b / 2) (omega arith) (omega arith)))
            (stands-byte w b (one cs n w₀ o₀ p (b / 2)) (r.ahead (b / 2) (omega arith) (omega arith)))
      ])
      | no h ↦ rw (le-ltb b (2 * (n + 10)) (omega arith)) (r.rest b (omega arith))
    ]))

  -- ---- What is told

  told_none : start_of cs 0 ≡ None → told_after cs n ≡ None
  unfolding told_after
  told_none e = rw e

  told-early : (p : ℕ) → Found cs p → taken < end_of p n → told_after cs n ≡ None
  unfolding told_after
  told-early p f h = rw (found-start cs p f, lt-ltb taken (end_of p n) h)

  told-late : (p : ℕ) → Found cs p → end_of p n ≤ taken → told_after cs n ≡ Some (read_copies cs p n)
  unfolding told_after
  told-late p f h = rw (found-start cs p f, le-ltb taken (end_of p n) h)

  -- what a state shows
  pub record Shows (ph : Phase) (w o : List ℕ) : Type 0 where
    pub says : said_in n ph ≡ saying_with (told_after cs n)
    pub out : o ≡ out_with (told_after cs n) o₀
    pub work : w ≡ work_after cs n w₀

  quiet : (ph : Phase) (w o : List ℕ) → said_in n ph ≡ Silent → told_after cs n ≡ None → o ≡ o₀ → w ≡ work_after cs n w₀ → Shows ph w o
  quiet ph w o s e out work = record { says = rw e s; out = rw e out; work = work }

  abbrev pub ShowsAt : Standing → Type 0
  ShowsAt (standing k ph w o) = Shows ph w o

  pub after-shows : (s : Standing) → After cs n w₀ o₀ taken s → ShowsAt s
  after-shows (standing k (Seeking matched) w o) b =
      let e = never-found cs b.nowhere in
      quiet (Seeking matched) w o refl (told_none e) b.out
      (work-is w (ap length b.work) (λ x. rw e (ap (λ (l : List ℕ). get_or l x 0) b.work)))
  after-shows (standing k (InOne p i heard frame) w o) b =
      let lt = b.less in let at = b.when in let pl = b.place in
      quiet (InOne p i heard frame) w o refl (told-early p b.start (omega arith)) b.out
      (work-one p i w b.start b.work (omega arith) (omega arith) (λ x l h. omega arith) (omega arith))
  after-shows (standing k (Between p heard) w o) b =
      let lt = b.less in let at = b.when in
      quiet (Between p heard) w o refl (told-early p b.start (omega arith)) b.out
      (work-one p (n + 10) w b.start b.work (omega arith) (omega arith) (λ x l h. absurd (omega arith)) (omega arith))
  after-shows (standing k (InTwo p i heard frame checks) w o) b =
      let lt = b.less in let at = b.when in let pl = b.place in
      quiet (InTwo p i heard frame checks) w o refl (told-early p b.start (omega arith)) b.out
      (work-two p i w b.start b.work (omega arith) (λ x l. omega arith) (λ x l h. omega arith))
  after-shows (standing k (Told p answer checks) w o) b =
      let past = b.past in
      let e = told-late p b.start b.past in
      record {
        says = rw e (ap Answered b.says);
        out = rw e b.out;
        work = work-two p (n + 10) w b.start b.work (omega arith) (λ x l. omega arith) (λ x l h. absurd (omega arith));
      }

  -- ---- After the end is told

  read_none : start_of cs 0 ≡ None → read_from cs 0 n ≡ and_then (start_at None) (λ p. read_at cs p n)
  unfolding read_from find_start
  read_none e = rw e

  read_found : (p : ℕ) → Found cs p → read_from cs 0 n ≡ read_at cs p n
  unfolding read_from find_start
  read_found p f = rw (found-start cs p f)

  pub record Ends (ph : Phase) (o : List ℕ) : Type 0 where
    pub says : said_in n (ended_in ph) ≡ Answered (mapped extent_of (read_from cs 0 n))
    pub out : o ≡ put_at o₀ 0 (puts (mapped payload_of (read_from cs 0 n)))

  nothing : (o : List ℕ) → o ≡ o₀ → o ≡ put_at o₀ 0 []
  nothing o e = e ∙ sym (put_front o₀ [] (omega arith))

  -- a start, but too few pulses
  cut : (p : ℕ) (ph : Phase) (o : List ℕ) → Found cs p → taken < end_of p n
      → said_in n (ended_in ph) ≡ Answered (outcome_by n p 4 (checks_of 0 0 0 0 0)) → o ≡ o₀ → Ends ph o
  unfolding outcome_by read_at
  cut p ph o f h s e = record {
    says = rw (read_found p f, locate_copies-cut_short taken p n h) s;
    out = rw (read_found p f, locate_copies-cut_short taken p n h) (nothing o e);
  }

  abbrev pub EndsAt : Standing → Type 0
  EndsAt (standing k ph w o) = Ends ph o

  pub after-ends : (s : Standing) → After cs n w₀ o₀ taken s → EndsAt s
  unfolding outcome_by read_at
  after-ends (standing k (Seeking matched) w o) b =
      let e = read_none (never-found cs b.nowhere) in
      record { says = rw e; out = rw e (nothing o b.out) }
  after-ends (standing k (InOne p i heard frame) w o) b =
      let lt = b.less in let at = b.when in let pl = b.place in cut p (InOne p i heard frame) o b.start (omega arith) refl b.out
  after-ends (standing k (Between p heard) w o) b =
      let lt = b.less in let at = b.when in cut p (Between p heard) o b.start (omega arith) refl b.out
  after-ends (standing k (InTwo p i heard frame checks) w o) b =
      let lt = b.less in let at = b.when in let pl = b.place in cut p (InTwo p i heard frame checks) o b.start (omega arith) refl b.out
  after-ends (standing k (Told p answer checks) w o) b =
      let e : read_from cs 0 n ≡ read_copies cs p n = read_found p b.start ∙ rw (locate_copies-within taken p n b.past) in
      record { says = rw e (ap Answered b.says); out = rw e b.out }
