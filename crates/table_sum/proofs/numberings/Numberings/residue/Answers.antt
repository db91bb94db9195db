use Rattle.table_sum.proofs.numberings.Numberings.residue.Goals as goal

pub returns : goal.returns
returns c = λ ms below rows. (rows.each c.args.index below).each c.args.n c.requires.n
