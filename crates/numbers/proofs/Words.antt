-- Bytes and the number in them, over any length: each from the other. Assumes nothing.
use mathlib.Core.Path.{◌≡◌, refl, sym, ap, ap₂, ◌∙◌}
use mathlib.Core.List.{List, [], ◌∷◌, ◌++◌}
use Prim.Native.Nat.{ℕ, zero, suc, ◌+◌, ◌*◌, ◌/◌, ◌%◌, ◌^◌, ◌<◌, ◌≤◌}
use native.Mathlib.Decide.{dec_lt}
use native.Mathlib.Nat.{one-le-pow, pow-succ', div-one, mod-one, mod-eq_of_lt, mul_assoc, mul-add-div_right, mul-add-mod_self_right}
use native.Mathlib.Numerals.{add-one}
use native.Mathlib.Omega.{arith}
use lib.Arith.{digits_lt, digits_div, mod-mul}
use lib.Dec.{lit<}
use lib.ListN.{length, get_or, take, drop, length-append, length-take, length-drop, get_or-eq_default}
use lib.Pow.{pow-add}
use lib.Seq.{length-take-le, take-add, drop-drop, drop-cons, get_or-take, get_or-drop}
use Rattle.std.specs.Int.{bytes_high_first}
use Rattle.numbers.specs.Words.{word16, word32, word64, bytes_of, Bytes}

-- the number in bytes, the high byte first
unfoldable pub number : List ℕ → ℕ
number [] = 0
number (x ∷ xs) = x * 256 ^ length xs + number xs

power : (n : ℕ) → 0 < 256 ^ n
power n = one-le-pow n 256 (lit< tt)

-- ---- the bytes of a number make the number

pub bytes_length : (n x : ℕ) → length (bytes_of n x) ≡ n
unfolding bytes_of
bytes_length zero x = refl
bytes_length (suc n) x = ap suc (bytes_length n x)

pub number_of_bytes : (n x : ℕ) → number (bytes_of n x) ≡ x % 256 ^ n
unfolding number bytes_of
number_of_bytes zero x = sym (mod-one x)
number_of_bytes (suc n) x = rw (bytes_length n x, number_of_bytes n x, pow-succ') (sym (mod-mul x (lit< tt) (power n)))

-- as the library tells the bytes of a number
pub high_first : (n x : ℕ) → bytes_high_first n x ≡ bytes_of n x
unfolding bytes_of
high_first zero x = refl
high_first (suc zero) x = rw div-one
high_first (suc (suc n)) x = rw (high_first (suc n) x)

-- ---- the number in bytes has these bytes

-- what stands above them changes none of the n lowest bytes
above : (n q r : ℕ) → bytes_of n (q * 256 ^ n + r) ≡ bytes_of n r
unfolding bytes_of
above zero q r = refl
above (suc n) q r =
    let e : q * 256 ^ suc n ≡ q * 256 * 256 ^ n = rw pow-succ' (sym (mul_assoc q 256 (256 ^ n))) in
    rw e
    (ap₂ (λ (x : ℕ) xs. x ∷ xs)
    (ap (λ (k : ℕ). k % 256) (mul-add-div_right (power n) (q * 256) r) ∙ mul-add-mod_self_right q 256 (r / 256 ^ n))
    (above n (q * 256) r))

number_small : (xs : List ℕ) → Bytes xs → number xs < 256 ^ length xs
unfolding number
number_small [] b = lit< tt
number_small (x ∷ xs) b = rw pow-succ' (digits_lt (b 0) (number_small xs λ i. b (suc i)))

pub bytes_of_number : (xs : List ℕ) → Bytes xs → bytes_of (length xs) (number xs) ≡ xs
unfolding number bytes_of
bytes_of_number [] b = refl
bytes_of_number (x ∷ xs) b =
    let n = length xs in
    ap₂ (λ (y : ℕ) ys. y ∷ ys)
    (ap (λ (k : ℕ). k % 256) (digits_div x (number_small xs λ i. b (suc i))) ∙ mod-eq_of_lt (b 0))
    (above n x (number xs) ∙ bytes_of_number xs λ i. b (suc i))

-- ---- the words at a place

number_append : (xs ys : List ℕ) → number (xs ++ ys) ≡ number xs * 256 ^ length ys + number ys
unfolding number
number_append [] ys = omega arith
number_append (x ∷ xs) ys = rw (number_append xs ys, length-append xs ys, pow-add 256 (length xs) (length ys)) (omega arith)

module _ (bytes : List ℕ) where
  number_joined : (m n at : ℕ) → at + (m + n) ≤ length bytes
      → number (take (m + n) (drop at bytes)) ≡ number (take m (drop at bytes)) * 256 ^ n + number (take n (drop (at + m) bytes))
  number_joined m n at h =
      let l : length (take n (drop (at + m) bytes)) ≡ n = length-take-le n (drop (at + m) bytes) (omega (arith, length-drop (at + m) bytes)) in
      rw (take-add, drop-drop, number_append, l)

  pub word16_is : (at : ℕ) → at + 2 ≤ length bytes → word16 bytes at ≡ number (take 2 (drop at bytes))
  unfolding number
  word16_is at h =
      let first : at < length bytes = omega arith in
      let second : suc at < length bytes = omega arith in
      rw (add-one, drop-cons bytes at 0, drop-cons bytes (suc at) 0) (omega arith)

  pub word32_is : (at : ℕ) → at + 4 ≤ length bytes → word32 bytes at ≡ number (take 4 (drop at bytes))
  word32_is at h = rw (word16_is at (omega arith), word16_is (at + 2) (omega arith)) (sym (number_joined 2 2 at h))

  pub word64_is : (at : ℕ) → at + 8 ≤ length bytes → word64 bytes at ≡ number (take 8 (drop at bytes))
  word64_is at h = rw (word32_is at (omega arith), word32_is (at + 4) (omega arith)) (sym (number_joined 4 4 at h))

-- the bytes from a place on are bytes
pub part_bytes : (bytes : List ℕ) (n at : ℕ) → Bytes bytes → Bytes (take n (drop at bytes))
part_bytes bytes n at b i = go (dec_lt i n)
  where
    go : Dec (i < n) → get_or (take n (drop at bytes)) i 0 < 256
    go (yes h) = rw (get_or-take, get_or-drop) (b (at + i))
    go (no h) = rw (get_or-eq_default (take n (drop at bytes)) 0 {n = i} (omega (arith, length-take n (drop at bytes)))) (lit< tt)

module _ (bytes : List ℕ) (at : ℕ) where
  -- a word that stands there reads back
  pub word64_back : (x : ℕ) → x < 256 ^ 8 → take 8 (drop at bytes) ≡ bytes_of 8 x → word64 bytes at ≡ x
  word64_back x h e =
      let l : length (take 8 (drop at bytes)) ≡ 8 = ap length e ∙ bytes_length 8 x in
      word64_is bytes at (omega (arith, simp (length-take, length-drop) at l)) ∙ ap number e ∙ number_of_bytes 8 x ∙ mod-eq_of_lt h

  -- and what is read would be written with the same bytes
  module _ (b : Bytes bytes) (h : at + 8 ≤ length bytes) where
    eight : length (take 8 (drop at bytes)) ≡ 8
    eight = length-take-le 8 (drop at bytes) (omega (arith, length-drop at bytes))

    pub word64_small : word64 bytes at < 256 ^ 8
    word64_small = rw (word64_is bytes at h) (rw eight at (number_small (take 8 (drop at bytes)) (part_bytes bytes 8 at b)))

    pub word64_bytes : bytes_of 8 (word64 bytes at) ≡ take 8 (drop at bytes)
    word64_bytes =
        ap (bytes_of 8) (word64_is bytes at h) ∙ rw eight at (bytes_of_number (take 8 (drop at bytes)) (part_bytes bytes 8 at b))
