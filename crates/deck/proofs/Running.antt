-- What the reader is after k pulses of a strip.
use Prim.Native.Nat.{ℕ, suc, ◌+◌, ◌-◌, ◌*◌, ◌≤◌, ◌<◌}
use native.Mathlib.Nat.{zero-add}
use native.Mathlib.Decide.{ℕ_discrete}
use native.Mathlib.Omega.{arith}
use mathlib.Core.Path.{◌≡◌, refl, sym, ap, ◌∙◌}
use mathlib.Core.List.{List, [], ◌∷◌}
use borrow.Author.Tests.{eq-eqb, ne_eqb, le-ltb}
use lib.Dec.{lit<}
use lib.ListN.{length, drop, get_or}
use lib.Seq.{get_or-drop, drop-drop}
use Rattle.lists.specs.Buffer.{put_at}
use Rattle.refusal.specs.Outcome.{mapped, puts}
use Rattle.pulse.specs.declared.Class.{Class}
use Rattle.pulse.specs.declared.Class.TheVariants.{Noise}
use Rattle.byte.specs.declared.ByteRead.{ByteRead}
use Rattle.byte.specs.declared.ByteRead.TheVariants.{Good}
use Rattle.byte.specs.Byte.{twenty}
use Rattle.start.specs.Copies.{byte_place, copy_two, end_of}
use Rattle.block.specs.Reading.{place_of, place_at, value_at, values_at, extent_of, payload_of, read_copies}
use Rattle.deck.specs.declared.Frame.{Frame}
use Rattle.deck.specs.declared.Checks.{Checks}
use Rattle.deck.specs.Lead.{seek}
use Rattle.deck.specs.Work.{put_byte, payload_in}
use Rattle.deck.specs.Judge.{check_byte, mend_byte}
use Rattle.deck.specs.Step.{Seeking, InOne, Between, InTwo, Told, Standing, standing, sought, placed, told, judged, step}
use Rattle.deck.specs.Calls.{outcome_by}
use Rattle.deck.proofs.FrameLaws.{frame_after, closed_at, pulse-at}
use Rattle.deck.proofs.LeadLaws.{Longest, longest-step, longest-none, NoStart, none_yet, Found, found, not_found, seek-le}
use Rattle.deck.proofs.WorkLaws.{Stands, get-stands, length-put_byte, put-here, put-away, stands-still, settled, length-mend, mend-away, mend-here, kept-value, payload-is}
use Rattle.deck.proofs.JudgeLaws.{one_byte, two_byte, checks_after, outcome-is, filled_is}

-- one pulse after the other
unfoldable pub steps : (n : ℕ) → Standing → List Class → Standing
steps n s [] = s
steps n s (c ∷ cs) = steps n (step n s c) cs

module _ (cs : List Class) (n : ℕ) (w₀ o₀ : List ℕ) where
  abbrev pub one : ℕ → ℕ → ByteRead
  one p x = one_byte cs p n x

  abbrev pub two : ℕ → ℕ → ByteRead
  two p x = two_byte cs p n x

  -- the buffer when i places of copy one are read
  pub record OneRead (p i : ℕ) (w : List ℕ) : Type 0 where
    pub size : length w ≡ length w₀
    pub stand : (x : ℕ) → x < i → Stands w x (one p x)
    pub rest : (x : ℕ) → 2 * i ≤ x → get_or w x 0 ≡ get_or w₀ x 0

  -- the buffer when i places of copy two are read
  pub record TwoRead (p i : ℕ) (w : List ℕ) : Type 0 where
    pub size : length w ≡ length w₀
    pub done : (x : ℕ) → x < i → Stands w x (settled x (one p x) (two p x))
    pub ahead : (x : ℕ) → i ≤ x → x < n + 10 → Stands w x (one p x)
    pub rest : (x : ℕ) → 2 * (n + 10) ≤ x → get_or w x 0 ≡ get_or w₀ x 0

  pub record SeekingAt (k taken matched : ℕ) (w o : List ℕ) : Type 0 where
    pub small : matched < 36
    pub all : taken ≡ k
    pub longest : Longest cs k matched
    pub nowhere : NoStart cs k
    pub work : w ≡ w₀
    pub out : o ≡ o₀

  pub record InOneAt (k taken p i heard : ℕ) (frame : Frame) (w o : List ℕ) : Type 0 where
    pub less : heard < 20
    pub place : i < n + 10
    pub when : k ≡ byte_place p i + heard
    pub all : taken ≡ k
    pub start : Found cs p
    pub byte : frame ≡ frame_after (twenty cs (byte_place p i)) heard
    pub work : OneRead p i w
    pub out : o ≡ o₀

  pub record BetweenAt (k taken p heard : ℕ) (w o : List ℕ) : Type 0 where
    pub less : heard < 61
    pub when : k ≡ byte_place p (n + 10) + heard
    pub all : taken ≡ k
    pub start : Found cs p
    pub work : OneRead p (n + 10) w
    pub out : o ≡ o₀

  pub record InTwoAt (k taken p i heard : ℕ) (frame : Frame) (checks : Checks) (w o : List ℕ) : Type 0 where
    pub less : heard < 20
    pub place : i < n + 10
    pub when : k ≡ byte_place (copy_two p n) i + heard
    pub all : taken ≡ k
    pub start : Found cs p
    pub byte : frame ≡ frame_after (twenty cs (byte_place (copy_two p n) i)) heard
    pub checked : checks ≡ checks_after cs p n i
    pub work : TwoRead p i w
    pub out : o ≡ o₀

  pub record ToldAt (k taken p answer : ℕ) (checks : Checks) (w o : List ℕ) : Type 0 where
    pub past : end_of p n ≤ k
    pub start : Found cs p
    pub says : outcome_by n p answer checks ≡ mapped extent_of (read_copies cs p n)
    pub work : TwoRead p (n + 10) w
    pub out : o ≡ put_at o₀ 0 (puts (mapped payload_of (read_copies cs p n)))

  -- what the reader is after k pulses
  abbrev pub After : ℕ → Standing → Type 0
  After k (standing taken (Seeking matched) w o) = SeekingAt k taken matched w o
  After k (standing taken (InOne p i heard frame) w o) = InOneAt k taken p i heard frame w o
  After k (standing taken (Between p heard) w o) = BetweenAt k taken p heard w o
  After k (standing taken (InTwo p i heard frame checks) w o) = InTwoAt k taken p i heard frame checks w o
  After k (standing taken (Told p answer checks) w o) = ToldAt k taken p answer checks w o

  abbrev pub beginning : Standing
  beginning = standing 0 (Seeking 0) w₀ o₀

  after_none : After 0 beginning
  after_none = record { small = lit< tt; all = refl; longest = longest-none cs; nowhere = none_yet cs; work = refl; out = refl }

  module _ (room : 2 * (n + 10) ≤ length w₀) where
    -- ---- The buffer, one place more

    one_more : (p i : ℕ) (w : List ℕ) → i < n + 10 → OneRead p i w → OneRead p (suc i) (put_byte w i (one p i))
    one_more p i w h b =
        let e = b.size in
        record {
          size = length-put_byte w i (one p i) ∙ e;
          stand = λ x l. elim (ℕ_discrete x i) [
            | yes d ↦ rw d (put-here w i (one p i) (omega arith))
            | no d ↦ stands-still w (put_byte w i (one p i)) i x (one p x) (put-away w i (one p i)) d (b.stand x (omega arith))
          ];
          rest = λ x l. put-away w i (one p i) x (λ d. omega arith) (λ d. omega arith) ∙ b.rest x (omega arith);
        }

    two-more : (p i : ℕ) (w : List ℕ) → i < n + 10 → TwoRead p i w → TwoRead p (suc i) (mend_byte w i (one p i) (two p i))
    two-more p i w h b =
        let e = b.size in
        let w' = mend_byte w i (one p i) (two p i) in
        let away = mend-away w i (one p i) (two p i) in
        record {
          size = length-mend w i (one p i) (two p i) ∙ e;
          done = λ x l. elim (ℕ_discrete x i) [
            | yes d ↦ rw d (mend-here w i (one p i) (two p i) (omega arith) (b.ahead i (omega arith) h))
            | no d ↦ stands-still w w' i x (settled x (one p x) (two p x)) away d (b.done x (omega arith))
          ];
          ahead = λ x l m. stands-still w w' i x (one p x) away (λ d. omega arith) (b.ahead x (omega arith) m);
          rest = λ x l. away x (λ d. omega arith) (λ d. omega arith) ∙ b.rest x l;
        }

    one-first : (p : ℕ) (w : List ℕ) → Found cs p → w ≡ w₀ → OneRead p 1 (put_byte w 0 (Good 0x89))
    one-first p w r e =
        let z : byte_place p 0 ≡ p = omega arith in
        let first : one p 0 ≡ Good 0x89 = rw z r.start.first in
        rw first at (one_more p 0 w (omega arith) (record { size = ap length e; stand = λ x l. absurd (omega arith); rest = λ x l. rw e }))

    two-first : (p : ℕ) (w : List ℕ) → OneRead p (n + 10) w → TwoRead p 0 w
    two-first p w b = record { size = b.size; done = λ x l. absurd (omega arith); ahead = λ x l m. b.stand x m; rest = b.rest }

    -- ---- One pulse more

    step-seeking : (k taken s : ℕ) (w o : List ℕ) → SeekingAt k taken s w o
        → After (suc k) (step n (standing taken (Seeking s) w o) (get_or cs k Noise))
    unfolding step sought
    step-seeking k taken s w o b =
        let c = get_or cs k Noise in
        let l = longest-step cs k s b.small b.longest in
        let le = seek-le s c in
        let lt = b.small in
        rw b.all (elim (ℕ_discrete (seek s c) 36) [
          | yes e ↦ (let r = found cs k (rw e at l) b.nowhere in
              let g : suc k - 20 + 20 ≡ suc k = (let z = l.ends in omega arith) in
              rw (eq-eqb (seek s c) 36 e) (record {
                less = lit< tt;
                place = omega arith;
                when = omega arith;
                all = refl;
                start = r;
                byte = unfold frame_after in refl;
                work = one-first (suc k - 20) w r b.work;
                out = b.out;
              }))
          | no ne ↦ rw (ne_eqb (seek s c) 36 ne) (record {
            small = omega arith;
            all = refl;
            longest = l;
            nowhere = not_found cs k (seek s c) (omega arith) l b.nowhere;
            work = b.work;
            out = b.out;
          })
        ])

    step-one : (k taken p i j : ℕ) (f : Frame) (w o : List ℕ) → InOneAt k taken p i j f w o
        → After (suc k) (step n (standing taken (InOne p i j f) w o) (get_or cs k Noise))
    unfolding step placed
    step-one k taken p i j f w o b =
        let lt = b.less in
        let at = b.when in
        let pl = b.place in
        rw (b.all, b.byte, pulse-at cs (byte_place p i) j k b.less b.when) (elim (ℕ_discrete (suc j) 20) [
          | yes e ↦ rw (eq-eqb (suc j) 20 e, e, closed_at cs (byte_place p i)) (elim (ℕ_discrete (suc i) (n + 10)) [
            | yes d ↦ rw (eq-eqb (suc i) (n + 10) d) (record {
              less = lit< tt;
              when = omega arith;
              all = refl;
              start = b.start;
              work = rw d at (one_more p i w pl b.work);
              out = b.out;
            })
            | no d ↦ rw (ne_eqb (suc i) (n + 10) d) (record {
              less = lit< tt;
              place = omega arith;
              when = omega arith;
              all = refl;
              start = b.start;
              byte = unfold frame_after in refl;
              work = one_more p i w pl b.work;
              out = b.out;
            })
          ])
          | no e ↦ rw (ne_eqb (suc j) 20 e) (record {
            less = omega arith;
            place = pl;
            when = omega arith;
            all = refl;
            start = b.start;
            byte = refl;
            work = b.work;
            out = b.out;
          })
        ])

    step-between : (k taken p j : ℕ) (w o : List ℕ) → BetweenAt k taken p j w o
        → After (suc k) (step n (standing taken (Between p j) w o) (get_or cs k Noise))
    unfolding step
    step-between k taken p j w o b =
        let lt = b.less in
        let at = b.when in
        rw b.all (elim (ℕ_discrete (suc j) 61) [
          | yes e ↦ rw (eq-eqb (suc j) 61 e) (record {
            less = lit< tt;
            place = omega arith;
            when = omega arith;
            all = refl;
            start = b.start;
            byte = unfold frame_after in refl;
            checked = unfold checks_after in refl;
            work = two-first p w b.work;
            out = b.out;
          })
          | no e ↦
              rw (ne_eqb (suc j) 61 e)
              (record { less = omega arith; when = omega arith; all = refl; start = b.start; work = b.work; out = b.out })
        ])

    -- the buffer holds the payload after the last place
    payload-last : (p : ℕ) (w : List ℕ) → TwoRead p (n + 10) w → payload_in n w ≡ values_at cs p (copy_two p n) n
    unfolding place_at
    payload-last p w b = payload-is n w (value_at cs p (copy_two p n)) (λ i l.
        (rw (le-ltb (9 + i) 9 (omega arith)) at (b.done (9 + i) (omega arith)).value) ∙ kept-value (one p (9 + i)) (two p (9 + i)))

    -- the last place is the checksum's
    last-place : (p i : ℕ) → suc i ≡ n + 10 → place_of (one p i) (two p i) ≡ place_at cs p (copy_two p n) n
    unfolding place_at
    last-place p i e = let z : i ≡ 9 + n = omega arith in ap (λ x. place_of (one p x) (two p x)) z

    step-two : (k taken p i j : ℕ) (f : Frame) (checks : Checks) (w o : List ℕ) → InTwoAt k taken p i j f checks w o
        → After (suc k) (step n (standing taken (InTwo p i j f checks) w o) (get_or cs k Noise))
    unfolding step judged told
    step-two k taken p i j f checks w o b =
        let lt = b.less in
        let at = b.when in
        let pl = b.place in
        let q = copy_two p n in
        let w' = mend_byte w i (one p i) (two p i) in
        let more : TwoRead p (suc i) w' = two-more p i w pl b.work in
        let next : check_byte n i (one p i) (two p i) (checks_after cs p n i) ≡ checks_after cs p n (suc i) = unfold checks_after in refl in
        rw (b.all, b.byte, pulse-at cs (byte_place q i) j k b.less b.when) (elim (ℕ_discrete (suc j) 20) [
          | yes e ↦
              let stood = get-stands w i (one p i) (b.work.ahead i (omega arith) pl) in
              rw (eq-eqb (suc j) 20 e, e, closed_at cs (byte_place q i), stood, b.checked, next)
              (elim (ℕ_discrete (suc i) (n + 10)) [
                | yes d ↦ (let more' : TwoRead p (n + 10) w' = rw d at more in
                    rw (eq-eqb (suc i) (n + 10) d, last-place p i d, ap (checks_after cs p n) d) (record {
                      past = omega arith;
                      start = b.start;
                      says = outcome-is cs p n;
                      work = more';
                      out =
                          filled_is cs p n w' o (payload-last p w' more')
                          ∙ ap (λ (l : List ℕ). put_at l 0 (puts (mapped payload_of (read_copies cs p n)))) b.out;
                    }))
                | no d ↦ rw (ne_eqb (suc i) (n + 10) d) (record {
                  less = lit< tt;
                  place = omega arith;
                  when = omega arith;
                  all = refl;
                  start = b.start;
                  byte = unfold frame_after in refl;
                  checked = refl;
                  work = more;
                  out = b.out;
                })
              ])
          | no e ↦ rw (ne_eqb (suc j) 20 e) (record {
            less = omega arith;
            place = pl;
            when = omega arith;
            all = refl;
            start = b.start;
            byte = refl;
            checked = b.checked;
            work = b.work;
            out = b.out;
          })
        ])

    step_after : (k : ℕ) (s : Standing) → After k s → After (suc k) (step n s (get_or cs k Noise))
    step_after k (standing taken (Seeking matched) w o) b = step-seeking k taken matched w o b
    step_after k (standing taken (InOne p i heard f) w o) b = step-one k taken p i heard f w o b
    step_after k (standing taken (Between p heard) w o) b = step-between k taken p heard w o b
    step_after k (standing taken (InTwo p i heard f checks) w o) b = step-two k taken p i heard f checks w o b
    step_after k (standing taken (Told p answer checks) w o) b =
        unfold step in (record { past = (let z = b.past in omega arith); start = b.start; says = b.says; work = b.work; out = b.out })

    -- the pulses that are left
    steps-after : (xs : List Class) (k : ℕ) (s : Standing) → drop k cs ≡ xs → After k s → After (k + length xs) (steps n s xs)
    unfolding steps
    steps-after [] k s e b = let z : k + 0 ≡ k = omega arith in rw z b
    steps-after (x ∷ xs) k s e b =
        let z : k + suc (length xs) ≡ suc k + length xs = omega arith in
        let z₀ : k + 0 ≡ k = omega arith in
        let z₁ : k + 1 ≡ suc k = omega arith in
        let c : get_or cs k Noise ≡ x = sym (rw z₀ at (get_or-drop k cs 0 Noise)) ∙ ap (λ (l : List Class). get_or l 0 Noise) e in
        let r : drop (suc k) cs ≡ xs = sym (rw z₁ at (drop-drop 1 k cs)) ∙ ap (drop 1) e in
        rw z (steps-after xs (suc k) (step n s x) r (rw c at (step_after k s b)))

    -- all pulses of the strip
    pub after-all : After (length cs) (steps n beginning cs)
    after-all = rw zero-add at (steps-after cs 0 beginning refl after_none)
