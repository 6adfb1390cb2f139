-- Laws of `put_at`, and of the stores that it is made of.
use Prim.Native.Nat.{ℕ, zero, suc, ◌+◌, ◌-◌, ◌≤◌, ◌<◌}
use native.Mathlib.Nat.{zero-add, add-zero, add-suc, suc-add}
use native.Mathlib.Decide.{ℕ_discrete, dec_le, dec_lt}
use native.Mathlib.Omega.{arith}
use mathlib.Core.Path.{◌≡◌, refl, sym, ap, ◌∙◌}
use mathlib.Core.List.{List, [], ◌∷◌, ◌++◌, append_assoc, append-nil}
use borrow.Author.Tests.{le-leb, lt-leb}
use lib.ListN.{length, take, drop, get_or, set, length-set, length-append, length-drop, drop_of_length-le}
use lib.Seq.{length-take-le, take-append_seam, drop-append_seam, take_at, drop_at, drop-drop, take_all, sets, length-sets, sets-eq, get_or-set_same, get_or-set_other, ext_get_or}
use Rattle.lists.specs.Places.{tabulate, part}
use Rattle.lists.specs.Buffer.{put_at}
use Rattle.lists.proofs.PlaceLaws.{length-tabulate}

-- where there is room, the values are stored one after the other
pub put-room : (buffer : List ℕ) (at : ℕ) (values : List ℕ) → at + length values ≤ length buffer → sets buffer at values ≡ put_at buffer at values
unfolding put_at
put-room buffer at values h = rw (le-leb (at + length values) (length buffer) h) (sets-eq values buffer at h)

-- where there is none, nothing is
put-none : (buffer : List ℕ) (at : ℕ) (values : List ℕ) → length buffer < at + length values → put_at buffer at values ≡ buffer
unfolding put_at
put-none buffer at values h = rw (lt-leb (at + length values) (length buffer) h)

pub length-put : (buffer : List ℕ) (at : ℕ) (values : List ℕ) → length (put_at buffer at values) ≡ length buffer
length-put buffer at values = elim (dec_le (at + length values) (length buffer)) [
  | yes h ↦ rw (← (put-room buffer at values h)) (length-sets buffer at values)
  | no h ↦ ap length (put-none buffer at values (omega arith))
]

-- what was put is there
pub part-put : (buffer : List ℕ) (at : ℕ) (values : List ℕ) → at + length values ≤ length buffer → part (put_at buffer at values) at (length values) ≡ values
unfolding put_at
part-put buffer at values h =
    rw (le-leb (at + length values) (length buffer) h, append_assoc)
    (ap (take (length values)) (drop_at (take at buffer) (values ++ drop (at + length values) buffer) at (length-take-le at buffer (omega arith)))
    ∙ take_at values (drop (at + length values) buffer) (length values) refl)

-- values put in front
pub put_front : (buffer values : List ℕ) → length values ≤ length buffer → put_at buffer 0 values ≡ values ++ drop (length values) buffer
unfolding put_at
put_front buffer values h = rw (zero-add, le-leb (length values) (length buffer) h)

-- what stands after them stays
pub rest-front : (buffer values : List ℕ) (n : ℕ) → length values ≡ n → n ≤ length buffer → drop n (put_at buffer 0 values) ≡ drop n buffer
rest-front buffer values n e h = rw (← e) (rw (put_front buffer values (omega arith)) (drop-append_seam values (drop (length values) buffer)))

-- values that fill the buffer
pub put_whole : (buffer values : List ℕ) → length values ≡ length buffer → put_at buffer 0 values ≡ values
put_whole buffer values e =
    let past : length buffer ≤ length values = omega arith in
    put_front buffer values (omega arith) ∙ rw (drop_of_length-le buffer past, append-nil)

-- values copied to the front, as a copy of a slice says it
pub put-copied : (buffer values : List ℕ) {buffer' : List ℕ} → length values ≤ length buffer
    → buffer' ≡ take (length values) values ++ drop (length values) buffer → buffer' ≡ put_at buffer 0 values
put-copied buffer values h e = e ∙ rw (take_all (length values) values (omega arith)) (sym (put_front buffer values h))

-- values put behind others, into the part of the buffer after them
module _ (buffer xs ys : List ℕ) (fits : length xs + length ys ≤ length buffer) where
  put-append : take (length xs) (put_at buffer 0 xs) ++ put_at (drop (length xs) (put_at buffer 0 xs)) 0 ys ≡ put_at buffer 0 (xs ++ ys)
  put-append =
      let long : length (xs ++ ys) ≤ length buffer = rw length-append fits in
      let room : length ys ≤ length (drop (length xs) buffer) = rw length-drop (omega arith) in
      rw (
        put_front buffer xs (omega arith),
        take-append_seam xs (drop (length xs) buffer),
        drop-append_seam xs (drop (length xs) buffer),
        put_front (drop (length xs) buffer) ys room,
        put_front buffer (xs ++ ys) long,
        length-append,
        drop-drop,
        append_assoc,
      )

  -- the same as a part that is lent and comes back
  pub put-lent : {one two : List ℕ} (n : ℕ) → length xs ≡ n → one ≡ put_at buffer 0 xs → two ≡ put_at (part one n (length one - n)) 0 ys
      → take n one ++ (two ++ drop (length one - n) (drop n one)) ≡ put_at buffer 0 (xs ++ ys)
  put-lent {one} n e p q =
      let past : length (drop n one) ≤ length one - n = rw length-drop (omega arith) in
      rw (q, take_all (length one - n) (drop n one) past, drop_of_length-le (drop n one) past, append-nil, p, ← e) put-append

-- values put into the part of a buffer from a place on, which is lent and comes back
pub sets-lent : (buffer values : List ℕ) (at : ℕ) {lent : List ℕ} → at + length values ≤ length buffer → lent ≡ put_at (part buffer at (length buffer - at)) 0 values
    → take at buffer ++ (lent ++ drop (length buffer - at) (drop at buffer)) ≡ sets buffer at values
sets-lent buffer values at h e =
    let past : length (drop at buffer) ≤ length buffer - at = rw length-drop (omega arith) in
    let room : length values ≤ length (drop at buffer) = rw length-drop (omega arith) in
    rw (e, take_all (length buffer - at) (drop at buffer) past, drop_of_length-le (drop at buffer) past, append-nil, put_front (drop at buffer) values room, drop-drop)
    (sym (append_assoc (take at buffer) values _) ∙ sym (sets-eq values buffer at h))

-- values in two parts
pub sets-append : (xs ys buffer : List ℕ) (at : ℕ) → sets buffer at (xs ++ ys) ≡ sets (sets buffer at xs) (at + length xs) ys
sets-append [] ys buffer at = rw add-zero
sets-append (x ∷ xs) ys buffer at = sets-append xs ys (set buffer at x) (suc at) ∙ rw (add-suc, suc-add)

-- ---- Values stored by their places

-- what stands after them stays
pub get_or-after : (vs l : List ℕ) (at j : ℕ) → at + length vs ≤ j → get_or (sets l at vs) j 0 ≡ get_or l j 0
get_or-after [] l at j h = refl
get_or-after (v ∷ vs) l at j h = get_or-after vs (set l at v) (suc at) j (omega arith) ∙ get_or-set_other l at j v 0 (λ e. omega arith)

-- what stands before them stays
pub get_or-before : (vs l : List ℕ) (at j : ℕ) → j < at → get_or (sets l at vs) j 0 ≡ get_or l j 0
get_or-before [] l at j h = refl
get_or-before (v ∷ vs) l at j h = get_or-before vs (set l at v) (suc at) j (omega arith) ∙ get_or-set_other l at j v 0 (λ e. omega arith)

-- they are there
pub get_or-stored : (f : ℕ → ℕ) (count at : ℕ) (l : List ℕ) (j : ℕ) → at + count ≤ length l → at ≤ j → j < at + count
    → get_or (sets l at (tabulate f count at)) j 0 ≡ f j
unfolding tabulate
get_or-stored f zero at l j h a b = absurd (omega arith)
get_or-stored f (suc count) at l j h a b = elim (ℕ_discrete j at) [
  | yes e ↦ rw e (get_or-before (tabulate f count (suc at)) (set l at (f at)) (suc at) at (omega arith) ∙ get_or-set_same l at (f at) 0 (omega arith))
  | no e ↦ get_or-stored f count (suc at) (set l at (f at)) j (omega (arith, length-set l at (f at))) (omega arith) (omega arith)
]

-- stored where they stand already, they change nothing
pub sets-there : (f : ℕ → ℕ) (count at : ℕ) (l : List ℕ) → at + count ≤ length l → ((j : ℕ) → at ≤ j → j < at + count → get_or l j 0 ≡ f j)
    → sets l at (tabulate f count at) ≡ l
sets-there f count at l h e =
    let vs = tabulate f count at in
    let long = length-tabulate f count at in
    ext_get_or 0 (sets l at vs) l (length-sets l at vs) (λ j b. elim (dec_lt j at) [
      | yes p ↦ get_or-before vs l at j p
      | no p ↦ elim (dec_lt j (at + count)) [
        | yes q ↦ get_or-stored f count at l j h (omega arith) q ∙ sym (e j (omega arith) q)
        | no q ↦ get_or-after vs l at j (omega arith)
      ]
    ])

-- stored over others, they are there alone
pub sets_over : (f g : ℕ → ℕ) (count at : ℕ) (l : List ℕ) → at + count ≤ length l → sets (sets l at (tabulate f count at)) at (tabulate g count at) ≡ sets l at (tabulate g count at)
sets_over f g count at l h =
    let fs = tabulate f count at in
    let gs = tabulate g count at in
    let long = length-tabulate f count at in
    let long' = length-tabulate g count at in
    let same = length-sets l at fs in
    ext_get_or 0 (sets (sets l at fs) at gs) (sets l at gs) (length-sets (sets l at fs) at gs ∙ same ∙ sym (length-sets l at gs)) (λ j b. elim (dec_lt j at) [
      | yes p ↦ get_or-before gs (sets l at fs) at j p ∙ get_or-before fs l at j p ∙ sym (get_or-before gs l at j p)
      | no p ↦ elim (dec_lt j (at + count)) [
        | yes q ↦ get_or-stored g count at (sets l at fs) j (omega arith) (omega arith) q ∙ sym (get_or-stored g count at l j h (omega arith) q)
        | no q ↦ get_or-after gs (sets l at fs) at j (omega arith) ∙ get_or-after fs l at j (omega arith) ∙ sym (get_or-after gs l at j (omega arith))
      ]
    ])
