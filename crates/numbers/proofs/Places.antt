-- Bytes put behind bytes are put at once. Assumes nothing.
use mathlib.Core.Path.{◌≡◌, sym, ap, ap₂, ◌∙◌, subst}
use mathlib.Core.List.{List, [], ◌++◌, append_assoc}
use Prim.Native.Nat.{ℕ, ◌+◌, ◌≤◌}
use native.Mathlib.Omega.{arith}
use lib.ListN.{length, take, drop, length-append, length-take, length-drop, take-append-drop}
use lib.Seq.{take_at, drop_at, drop-drop}
use Rattle.numbers.specs.Placing.{at_front, placed, Placed}

-- ---- at the front

module _ (bytes out : List ℕ) where
  pub at_front_length : length bytes ≤ length out → length (at_front bytes out) ≡ length out
  at_front_length room = simp (length-append, length-drop) (omega arith)

  pub front_then : (more : List ℕ) → bytes ++ at_front more (drop (length bytes) out) ≡ at_front (bytes ++ more) out
  front_then more = rw (drop-drop, length-append, append_assoc)

-- ---- from a place on

module _ (bytes : List ℕ) (at : ℕ) (out : List ℕ) where
  module _ (room : at + length bytes ≤ length out) where
    pub placed_length : length (placed bytes at out) ≡ length out
    placed_length = simp (length-append, length-take, length-drop) (omega arith)

    pub placed_then : (more : List ℕ) → placed more (at + length bytes) (placed bytes at out) ≡ placed (bytes ++ more) at out
    placed_then more =
        let end = at + length bytes in
        let first = take at out ++ bytes in
        let rest = drop (length bytes) (drop at out) in
        let l : length first ≡ end = simp (length-append, length-take) (omega arith) in
        ap (placed more end) (sym (append_assoc (take at out) bytes rest))
        ∙ ap₂ (λ before behind. before ++ at_front more behind) (take_at first rest end l) (drop_at first rest end l)
        ∙ append_assoc (take at out) bytes (at_front more rest)
        ∙ ap (λ put. take at out ++ put) (front_then bytes (drop at out) more)

-- ---- one put after another

pub then : {bytes more : List ℕ} {at middle end : ℕ} {out between after : List ℕ}
    → Placed bytes at out middle between → Placed more middle between end after → Placed (bytes ++ more) at out end after
then {bytes} {more} {at} {middle} {end} {out} {between} {after} p q =
    let room : at + length bytes ≤ length out = omega (arith, p.ends, p.within) in
    let l : length between ≡ length out = ap length p.bytes ∙ placed_length bytes at out room in
    record {
      ends = omega (arith, p.ends, q.ends, length-append bytes more);
      within = omega (arith, q.within, l);
      bytes = q.bytes ∙ ap₂ (placed more) p.ends p.bytes ∙ placed_then bytes at out room more;
    }

-- nothing is put
pub nothing : (at : ℕ) (out : List ℕ) → at ≤ length out → Placed [] at out at out
nothing at out h = record { ends = omega arith; within = h; bytes = sym (take-append-drop at out) }

-- the same bytes by another name
pub named : {bytes same : List ℕ} {at end : ℕ} {out after : List ℕ} → bytes ≡ same → Placed bytes at out end after → Placed same at out end after
named {at = at} {end} {out} {after} e p = subst (λ t. Placed t at out end after) e p
