-- Bytes put into lent bytes.
use Rattle.std.specs.Prelude.{◌≡◌, List, ◌++◌, ℕ, ◌+◌, ◌≤◌, length, take, drop}

-- at the front of the lent bytes; 'bytes behind it keep their values'
abbrev pub at_front : List ℕ → List ℕ → List ℕ
at_front bytes out = bytes ++ drop (length bytes) out

-- from `at` on: at the front of what stands there; the bytes before it keep their values too
abbrev pub placed : List ℕ → ℕ → List ℕ → List ℕ
placed bytes at out = take at out ++ at_front bytes (drop at out)

-- the lent bytes before and after, and where what was put ends
pub record Placed (put : List ℕ) (at : ℕ) (before : List ℕ) (end : ℕ) (after : List ℕ) : Type 0 where
  pub ends : end ≡ at + length put
  pub within : end ≤ length before
  pub bytes : after ≡ placed put at before
