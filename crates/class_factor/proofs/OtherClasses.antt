-- The classes that have no part at edges and vertices have the fraction 1 over 1 there.
use Rattle.std.proofs.Common.{◌≡◌, ◌⊎◌, inl, inr, ℕ, List, ℤ, pos}
use Rattle.arithmetic.specs.Fractions.{fraction}
use Rattle.classes.specs.declared.class.Class.{Class}
use Rattle.classes.specs.declared.class.Class.TheVariants.{Mark, Incidence, Psi}
use Rattle.localisation.specs.ClassValue.{class_edge, class_vertex}

pub other_edge : (ws : List ℤ) (class : Class) (i j a : ℕ)
    → ((x : ℕ) × class ≡ Mark x) ⊎ (((x : ℕ) × class ≡ Incidence x) ⊎ ((x : ℕ) × class ≡ Psi x))
    → class_edge ws class i j a ≡ fraction (pos 1) (pos 1)
other_edge ws class i j a (inl w) = rw w.1
other_edge ws class i j a (inr (inl w)) = rw w.1
other_edge ws class i j a (inr (inr w)) = rw w.1

pub other_vertex : (ws : List ℤ) (class : Class) (c s : ℕ)
    → ((x : ℕ) × class ≡ Mark x) ⊎ (((x : ℕ) × class ≡ Incidence x) ⊎ ((x : ℕ) × class ≡ Psi x))
    → class_vertex ws class c s ≡ fraction (pos 1) (pos 1)
other_vertex ws class c s (inl w) = rw w.1
other_vertex ws class c s (inr (inl w)) = rw w.1
other_vertex ws class c s (inr (inr w)) = rw w.1
