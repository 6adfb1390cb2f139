-- What a lent buffer holds after a call that puts something into it.
use Rattle.std.specs.Prelude.{ℕ, ◌+◌, ◌≤◌, ◌≡◌, Bool, cond, List, ◌++◌, leb, length, take, drop}

-- the buffer has n places from `at` on
abbrev pub has_room : List ℕ → ℕ → ℕ → Bool
has_room buffer at n = leb (at + n) (length buffer)

-- `values` put from `at` on; where there is no room for all of them, nothing is put
unfoldable pub put_at : List ℕ → ℕ → List ℕ → List ℕ
put_at buffer at values =
    cond (has_room buffer at (length values)) (take at buffer ++ values ++ drop (at + length values) buffer) buffer

-- n elements stand at the front of a buffer. The second part follows from the first; a caller that takes them as a part needs both.
abbrev pub Counts : (n : ℕ) (buffer : List ℕ) → Type 0
Counts n buffer = (n ≤ length buffer) × (n ≡ length (take n buffer))
