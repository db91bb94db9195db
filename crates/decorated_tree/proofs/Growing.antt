-- Texts appended one after the other.
use Rattle.std.proofs.Common.{◌≡◌, ℕ, List, ◌++◌, append_assoc, ap, ◌∙◌}
use Rattle.decorated_tree.specs.Growth.{Grows}

pub grows_on : (a b c : List ℕ) → Grows a b → Grows b c → Grows a c
grows_on a b c p q = record { more = p.more ++ q.more; is = q.is ∙ ap (λ l. l ++ q.more) p.is ∙ append_assoc a p.more q.more }

pub six_more : (o a b c d e f u v w x y z : List ℕ) → a ≡ o ++ u → b ≡ a ++ v → c ≡ b ++ w → d ≡ c ++ x → e ≡ d ++ y
    → f ≡ e ++ z → f ≡ o ++ (u ++ v ++ w ++ x ++ y ++ z)
six_more o a b c d e f u v w x y z p q r s t i = rw (i, t, s, r, q, p) (simp append_assoc)

pub five_grow : (o a b c d e u v w x y : List ℕ) → a ≡ o ++ u → b ≡ a ++ v → c ≡ b ++ w → d ≡ c ++ x → e ≡ d ++ y
    → Grows o e
five_grow o a b c d e u v w x y p q r s t = record { more = u ++ v ++ w ++ x ++ y; is = rw (t, s, r, q, p) (simp append_assoc) }

pub same_more : (a o u v : List ℕ) → a ≡ o ++ u → u ≡ v → a ≡ o ++ v
same_more a o u v p q = p ∙ ap (λ z. o ++ z) q
