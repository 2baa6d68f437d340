-- Signed numbers as the machine works with them: read back from bits, tested, cast, divided toward zero, added. Over any width.
-- Assumes nothing.
use mathlib.Core.Bool.{true, false, true≢false, false≢true}
use mathlib.Core.Path.{◌≡◌, refl, sym, ap, ◌∙◌}
use Prim.Native.Nat.{ℕ, zero, suc, ◌+◌, ◌*◌, ◌/◌, ◌%◌, ◌<◌, ◌≤◌, ◌^◌, zero-le}
use native.Mathlib.Decide.{dec_lt}
use native.Mathlib.Nat.{div-add-mod', mod-lt, div-le_self, mul-div_cancel, mul-mod_left, suc-mul}
use native.Mathlib.Omega.{arith}
use lib.Arith.{digits_div, digits_mod}
use lib.Dec.{T}
use lib.IntN.{ℤ, pos, negsuc, neg_ℤ, nat_abs, ◌+ℤ◌, ◌-ℤ◌}
use lib.Signed.{mag, lt_z, quot_z, rem_z, mag_rem, non_neg}
use mir.Facts.{to_z-of_z, to_z_pos}
use mir.Syntax.{Width, w64}
use mir.Val.{Fits, SFits, hbits, to_z, of_z}
use mir.ValLaws.{sfits_le, half_full}
use borrow.Author.Tests.{ltb-true, le-ltb}
use Rattle.std.proofs.lemmas.Int.{ints}
use Rattle.integers.specs.Integers.{floor_div}
use Rattle.integers.proofs.Differences.{⊖s}

-- ---- a number as the machine reads it back from its bits: itself, where it fits

abbrev pub back : Width → ℤ → ℤ
back w z = to_z w (of_z w z)

-- a call's result, from what the call promises of it: `told w64 c.call.type_inv c.call.ensures`
pub told : (w : Width) {y z : ℤ} → mag y < 2 ^ hbits w → y ≡ z → back w y ≡ z
told w h e = to_z-of_z {w = w} (record { sfits = h }) ∙ e

-- a word of eight bytes reads back from its bits as it was
pub word_back : (z : ℤ) → mag z < 2 ^ 63 → back w64 z ≡ z
word_back z h = told w64 h refl

-- a number that is not negative, cast to the same width without a sign
pub cast_fits : {w : Width} {y : ℤ} {n : ℕ} → y ≡ pos n → n < 2 ^ hbits w → T (non_neg y) × Fits w (nat_abs y)
cast_fits {w} e h = rw e (tt, record { fits = half_full w h })

-- ---- the sign

negative : (z : ℤ) → lt_z z (pos 0) ≡ true → z ≡ negsuc (mag z)
negative (pos n) t = absurd (omega (arith, ltb-true n 0 t))
negative (negsuc n) t = refl

not_negative : (z : ℤ) → lt_z z (pos 0) ≡ false → z ≡ pos (mag z)
not_negative (pos n) t = refl
not_negative (negsuc n) t = absurd (true≢false t)

-- −1 less a negative number
complement : (n : ℕ) → negsuc 0 -ℤ negsuc n ≡ pos n
complement n = rw (le-ltb (suc n) 1 (omega arith)) (ap pos (omega arith))

module _ {w : Width} {z : ℤ} (f : SFits w z) where
  pub mag_small : {n : ℕ} → n ≡ mag (back w z) → n < 2 ^ hbits w
  mag_small e = rw (e, to_z-of_z f) f.sfits

  module _ (t : lt_z (back w z) (pos 0) ≡ true) where
    pub is_negative : {n : ℕ} → n ≡ mag (back w z) → z ≡ negsuc n
    is_negative e = negative z (rw (to_z-of_z f) at t) ∙ ap negsuc (sym (e ∙ ap mag (to_z-of_z f)))

    complement_is : negsuc 0 -ℤ back w z ≡ pos (mag z)
    complement_is = ap (λ (y : ℤ). negsuc 0 -ℤ y) (to_z-of_z f ∙ is_negative (ap mag (sym (to_z-of_z f)))) ∙ complement (mag z)

    pub complement_fits : SFits w (negsuc 0 -ℤ back w z)
    complement_fits = rw complement_is (record { sfits = f.sfits })

    pub complement_back : back w (negsuc 0 -ℤ back w z) ≡ pos (mag z)
    complement_back = to_z-of_z complement_fits ∙ complement_is

  module _ (t : lt_z (back w z) (pos 0) ≡ false) where
    pub is_positive : {n : ℕ} → n ≡ mag (back w z) → z ≡ pos n
    is_positive e = not_negative z (rw (to_z-of_z f) at t) ∙ ap pos (sym (e ∙ ap mag (to_z-of_z f)))

    pub positive_back : back w z ≡ pos (mag z)
    positive_back = to_z-of_z f ∙ is_positive (ap mag (sym (to_z-of_z f)))

-- ---- division toward minus infinity by the quotient and the remainder toward zero

-- one more: the quotient and the remainder of suc n
data Next (n d : ℕ) : Type 0 where
  same : (r : ℕ) → suc n % d ≡ suc r → suc n / d ≡ n / d → Next n d
  turn : suc n % d ≡ 0 → suc n / d ≡ suc (n / d) → Next n d

next : (n d : ℕ) → 0 < d → Next n d
next n d h = go (dec_lt (suc (n % d)) d)
  where
    go : Dec (suc (n % d) < d) → Next n d
    go (yes l) =
        let e : suc n ≡ n / d * d + suc (n % d) = omega (arith, div-add-mod' n d) in
        same (n % d) (rw e (digits_mod (n / d) l)) (rw e (digits_div (n / d) l))
    go (no l) =
        let e : suc n ≡ suc (n / d) * d = rw suc-mul (omega (arith, div-add-mod' n d, mod-lt n h)) in
        turn (rw e (mul-mod_left (suc (n / d)) d)) (rw e (mul-div_cancel (suc (n / d)) h))

one_less : (q : ℕ) → neg_ℤ (pos q) -ℤ pos 1 ≡ negsuc q
one_less q = simp ⊖s (omega arith)

-- a negative remainder: one below the quotient; any other: the quotient
below : (z : ℤ) (d : ℕ) → 0 < d → lt_z (rem_z z (pos d)) (pos 0) ≡ true → quot_z z (pos d) -ℤ pos 1 ≡ floor_div z d
below (pos n) d h t = absurd (omega (arith, ltb-true (n % d) 0 t))
below (negsuc n) d h t = go (next n d h)
  where
    go : Next n d → neg_ℤ (pos (suc n / d)) -ℤ pos 1 ≡ negsuc (n / d)
    go (same r m q) = rw q (one_less (n / d))
    go (turn m q) = absurd (false≢true (rw m at t))

whole : (z : ℤ) (d : ℕ) → 0 < d → lt_z (rem_z z (pos d)) (pos 0) ≡ false → quot_z z (pos d) ≡ floor_div z d
whole (pos n) d h t = refl
whole (negsuc n) d h t = go (next n d h)
  where
    go : Next n d → neg_ℤ (pos (suc n / d)) ≡ negsuc (n / d)
    go (same r m q) = absurd (true≢false (rw m at t))
    go (turn m q) = rw q

mag_neg : (r : ℕ) {n : ℕ} → r ≤ suc n → mag (neg_ℤ (pos r)) ≤ n
mag_neg zero h = zero-le
mag_neg (suc r) h = omega arith

mag_quot : (z : ℤ) (d : ℕ) → mag (quot_z z (pos d)) ≤ mag z
mag_quot (pos n) d = div-le_self n d
mag_quot (negsuc n) d = mag_neg (suc n / d) (div-le_self (suc n) d)

mag_floor : (z : ℤ) (d : ℕ) → mag (floor_div z d) ≤ mag z
mag_floor (pos n) d = div-le_self n d
mag_floor (negsuc n) d = div-le_self n d

-- y is the divisor as the machine reads it
module _ {w : Width} {z y : ℤ} {d : ℕ} (f : SFits w z) (p : y ≡ pos d) (h : 0 < d) where
  rem_is : back w (rem_z (back w z) y) ≡ rem_z z (pos d)
  rem_is = rw (p, to_z-of_z f) (to_z-of_z (sfits_le (mag_rem z (pos d)) f))

  pub quot_fits : SFits w (quot_z (back w z) y)
  quot_fits = rw (p, to_z-of_z f) (sfits_le (mag_quot z d) f)

  quot_is : back w (quot_z (back w z) y) ≡ quot_z z (pos d)
  quot_is = to_z-of_z quot_fits ∙ rw (p, to_z-of_z f)

  module _ (t : lt_z (back w (rem_z (back w z) y)) (pos 0) ≡ true) where
    below_is : back w (quot_z (back w z) y) -ℤ pos 1 ≡ floor_div z d
    below_is = ap (λ (q : ℤ). q -ℤ pos 1) quot_is ∙ below z d h (rw rem_is at t)

    pub below_fits : SFits w (back w (quot_z (back w z) y) -ℤ pos 1)
    below_fits = rw below_is (sfits_le (mag_floor z d) f)

    pub floor_below : back w (back w (quot_z (back w z) y) -ℤ pos 1) ≡ floor_div z d
    floor_below = to_z-of_z below_fits ∙ below_is

  pub floor_whole : lt_z (back w (rem_z (back w z) y)) (pos 0) ≡ false → back w (quot_z (back w z) y) ≡ floor_div z d
  floor_whole t = quot_is ∙ whole z d h (rw rem_is at t)

-- ---- sums that fit

pub sum_abs : (a b : ℤ) → nat_abs (a +ℤ b) ≤ nat_abs a + nat_abs b
sum_abs a b = omega (arith, ints)

-- a number whose size is below half the width's power
pub abs_fits : {w : Width} (z : ℤ) → nat_abs z < 2 ^ hbits w → SFits w z
abs_fits (pos n) h = record { sfits = h }
abs_fits (negsuc n) h = record { sfits = omega arith }

module _ {w : Width} {a b : ℤ} (fa : SFits w a) (fb : SFits w b) (h : nat_abs a + nat_abs b < 2 ^ hbits w) where
  pub sum_fits : SFits w (back w a +ℤ back w b)
  sum_fits = rw (to_z-of_z fa, to_z-of_z fb) (abs_fits (a +ℤ b) (omega (arith, sum_abs a b)))

  pub sum_is : back w (back w a +ℤ back w b) ≡ a +ℤ b
  sum_is = to_z-of_z sum_fits ∙ rw (to_z-of_z fa, to_z-of_z fb)

-- the difference of two numbers without a sign, cast to one
module _ (w : Width) (a b : ℕ) (h : a + b < 2 ^ hbits w) where
  signed : to_z w a -ℤ to_z w b ≡ pos a -ℤ pos b
  signed = rw (to_z_pos w {n = a} (omega arith), to_z_pos w {n = b} (omega arith))

  pub minus_fits : SFits w (to_z w a -ℤ to_z w b)
  minus_fits = rw signed (record { sfits = simp ⊖s (omega arith) })

  pub minus_is : back w (to_z w a -ℤ to_z w b) ≡ pos a -ℤ pos b
  minus_is = to_z-of_z minus_fits ∙ signed
