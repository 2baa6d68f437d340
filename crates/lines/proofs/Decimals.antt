-- A number is printed as `{}` prints it. Assumes nothing.
use mathlib.Core.Path.{◌≡◌, sym, ap}
use mathlib.Core.Bool.{cond}
use mathlib.Core.List.{◌∷◌, ◌++◌}
use Prim.Native.Nat.{ℕ, suc, ◌^◌, ◌≤◌, ◌<◌}
use native.Mathlib.Omega.{arith}
use borrow.Author.Tests.{lt-ltb, le-ltb}
use lib.IntN.{ℤ, pos, negsuc}
use lib.Signed.{mag}
use Rattle.std.specs.Fmt as Fmt
use Rattle.std.proofs.Common.{rules}
use Rattle.std.proofs.lemmas.Fmt.{AppendsLastDigit, decimal_from_appends, length-decimal-le}
use Rattle.lines.specs.Ascii.{ascii}
use Rattle.lines.specs.Numerals.{digits_of, decimal, two_digits, signed}

appends : AppendsLastDigit digits_of
unfolding digits_of
appends = search rules

pub decimal_is : (n : ℕ) → n < 2 ^ 64 → Fmt.decimal n ≡ decimal n
decimal_is n h = sym (decimal_from_appends digits_of appends 20 n h (length-decimal-le 20 n (omega arith) (omega (arith, h)) h))

pub signed_is : (z : ℤ) → mag z < 2 ^ 63 → Fmt.signed_decimal z ≡ signed z
signed_is (pos n) h = decimal_is n (omega (arith, h))
signed_is (negsuc n) h = ap (λ digits. 45 ∷ digits) (decimal_is (suc n) (omega (arith, h)))

pub with_zero : (m : ℕ) → m < 10 → ascii "0" ++ Fmt.decimal m ≡ two_digits m
with_zero m h = simp (lt-ltb m 10 h, decimal_is m (omega (arith, h)))

pub without_zero : (m : ℕ) → 10 ≤ m → m < 2 ^ 64 → Fmt.decimal m ≡ two_digits m
without_zero m h l = simp (le-ltb m 10 h, decimal_is m l)

-- ---- two digits, in the words of the definitions alone

pub two_digits_with_zero : (m : ℕ) → m < 10 → ascii "0" ++ decimal m ≡ two_digits m
two_digits_with_zero m h = sym (ap (λ b. cond b (ascii "0" ++ decimal m) (decimal m)) (lt-ltb m 10 h))

pub two_digits_without_zero : (m : ℕ) → 10 ≤ m → decimal m ≡ two_digits m
two_digits_without_zero m h = sym (ap (λ b. cond b (ascii "0" ++ decimal m) (decimal m)) (le-ltb m 10 h))
