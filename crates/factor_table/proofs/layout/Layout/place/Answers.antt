use Rattle.std.proofs.Common.{ℕ, ◌<◌, ◌≤◌, sym, subst, ◌∙◌}
use Rattle.factor_table.specs.KeyPlaces.{first_factor, words_of}
use Rattle.factor_table.proofs.OneToOne.{place_from, place_below, one_to_one}
use Rattle.factor_table.proofs.layout.Layout.place.Goals as goal

pub returns-clause-within : goal.returns-clause-within
returns-clause-within c = let s = c.args.self.now.sizes in
    let At : ℕ → Type 0 = λ place. (first_factor s ≤ place) × (place < words_of s) in
    subst At (sym c.place_by_kind.ensures)
    (place_from s c.args.key c.args.modulus, place_below s c.args.key c.args.modulus c.requires.key c.requires.modulus)

pub returns-clause-one_to_one : goal.returns-clause-one_to_one
returns-clause-one_to_one c =
    λ other n within below same. one_to_one c.args.self.now.sizes other c.args.key n c.args.modulus within c.requires.key (same ∙ c.place_by_kind.ensures)
