-- The first key that is not known.
use Rattle.std.proofs.Common.{◌≡◌, ℕ, Bool, true, false, not, List, [], ◌∷◌, Option, Some, None, option_map, find, cond, String, Global, string_bytes, Bor, refl, ap, ◌∙◌}
use Rattle.std.specs.Option.{option_copied}
use Rattle.std.specs.Map.{keys_of}
use Rattle.toml.specs.declared.value.Value.{Value}
use Rattle.toml.specs.View.{members_view}
use Rattle.problem_toml.specs.Tables.{is_known, first_unknown}
use Rattle.problem_toml.specs.declared.name.Name.{Name}

chosen : (b : Bool) (k : String Global) (rest : Option (String Global)) (found : Option (List ℕ))
    → option_map string_bytes rest ≡ found
    → option_map string_bytes (cond (not b) (Some k) rest) ≡ cond b found (Some (string_bytes k))
chosen true k rest found e = e
chosen false k rest found e = refl

pub find_unknown : (names : List Name) (es : List (String Global × Value))
    → option_map string_bytes (find (λ k. not (is_known (string_bytes k) names)) (keys_of es)) ≡ first_unknown names (members_view es)
find_unknown names [] = refl
find_unknown names (e ∷ es) = chosen (is_known (string_bytes e.0) names) e.0 _ _ (find_unknown names es)

-- the same of what a look through the keys answered, by reference
pub unknown_found : (r : Option (Bor (String Global))) (names : List Name) (es : List (String Global × Value))
    → option_copied r ≡ find (λ k. not (is_known (string_bytes k) names)) (keys_of es)
    → option_map (λ k. string_bytes k.now) r ≡ first_unknown names (members_view es)
unknown_found None names es e = ap (option_map string_bytes) e ∙ find_unknown names es
unknown_found (Some k) names es e = ap (option_map string_bytes) e ∙ find_unknown names es
