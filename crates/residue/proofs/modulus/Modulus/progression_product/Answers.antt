use Rattle.residue.proofs.modulus.Modulus.progression_product.Goals as goal

pub returns : goal.returns
returns c = rw (← c.self.view_is) (c.progression_product.ensures)
