-- Names that differ.
use Rattle.std.proofs.Common.{◌≡◌, Bool, true, false, refl, sym}
use Rattle.std.proofs.lemmas.Slice.Eq.{bytes_eq-Decides}
use Rattle.std.specs.Str.{bytes_eq}
use Rattle.clap.specs.Walk.{Text}

pub other : (name wanted : Text) → (name ≡ wanted → ⊥) → bytes_eq wanted name ≡ false
other name wanted differs = step (bytes_eq wanted name) refl
  where
    step : (b : Bool) → bytes_eq wanted name ≡ b → b ≡ false
    step true e = absurd (differs (sym ((bytes_eq-Decides wanted name).0 e)))
    step false e = refl
