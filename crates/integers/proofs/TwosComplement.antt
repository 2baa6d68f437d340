-- Words of eight bytes in two's complement, over the whole range from −2^63 to 2^63 − 1: each read back from the other. Assumes nothing.
use mathlib.Core.Path.{◌≡◌, refl, ap, ◌∙◌}
use mathlib.Core.Bool.{Bool, true, false, cond}
use mathlib.Core.List.{List}
use Prim.Native.Nat.{ℕ, ◌+◌, ◌-◌, ◌^◌, ◌<◌, ◌≤◌}
use native.Mathlib.Omega.{arith}
use lib.Dec.{ltb}
use lib.IntN.{ℤ, pos, negsuc, ◌-ℤ◌}
use lib.ListN.{length, take, drop}
use lib.Signed.{mag}
use mir.Facts.{to_z-of_z, to_z_pos}
use mir.Syntax.{w64}
use mir.Val.{SFits, to_z}
use borrow.Author.Tests.{lt-ltb, le-ltb}
use Rattle.numbers.specs.Words.{bytes_of, word64, Bytes}
use Rattle.numbers.proofs.Words.{word64_small, word64_back, word64_bytes}
use Rattle.integers.specs.Integers.{most_word, twos_complement, signed_of, signed_word}
use Rattle.integers.proofs.Differences.{⊖s}
use Rattle.integers.proofs.Machine.{back}

-- ---- words

complement_small : (z : ℤ) → mag z < 2 ^ 63 → twos_complement z < 256 ^ 8
complement_small (pos n) h = omega arith
complement_small (negsuc n) h = omega arith

pub signed_back : (z : ℤ) → mag z < 2 ^ 63 → signed_of (twos_complement z) ≡ z
signed_back (pos n) h = rw (lt-ltb n (2 ^ 63) h)
signed_back (negsuc n) h = rw (le-ltb (most_word - n) (2 ^ 63) (omega arith)) (ap negsuc (omega arith))

module _ (word : ℕ) (h : word < 256 ^ 8) where
  pub complement_back : twos_complement (signed_of word) ≡ word
  complement_back = go (ltb word (2 ^ 63))
    where
      go : (t : Bool) → twos_complement (cond t (pos word) (negsuc (most_word - word))) ≡ word
      go true = refl
      go false = omega arith

-- ---- the eight bytes at a place

module _ (bytes : List ℕ) (at : ℕ) where
  pub signed_word_back : (z : ℤ) → mag z < 2 ^ 63 → take 8 (drop at bytes) ≡ bytes_of 8 (twos_complement z) → signed_word bytes at ≡ z
  signed_word_back z h e = ap signed_of (word64_back bytes at (twos_complement z) (complement_small z h) e) ∙ signed_back z h

  pub signed_word_bytes : Bytes bytes → at + 8 ≤ length bytes → bytes_of 8 (twos_complement (signed_word bytes at)) ≡ take 8 (drop at bytes)
  signed_word_bytes b h =
      ap (bytes_of 8) (complement_back (word64 bytes at) (word64_small bytes at b h)) ∙ word64_bytes bytes at b h

-- ---- as the machine works a negative one out

-- −1 less how far the word is below the highest
less : (n : ℕ) → negsuc 0 -ℤ pos n ≡ negsuc n
less n = simp ⊖s (omega arith)

module _ (n : ℕ) (h : n < 2 ^ 63) where
  less_is : negsuc 0 -ℤ to_z w64 n ≡ negsuc n
  less_is = rw (to_z_pos w64 h) (less n)

  pub less_fits : SFits w64 (negsuc 0 -ℤ to_z w64 n)
  less_fits = rw less_is (record { sfits = h })

  pub less_back : back w64 (negsuc 0 -ℤ to_z w64 n) ≡ negsuc n
  less_back = to_z-of_z less_fits ∙ less_is
