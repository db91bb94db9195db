use Rattle.std.proofs.Common.{refl}
use Rattle.command_line.proofs.Names.{other}
use Rattle.command_line.proofs.requests.request.Goals as goal

pub returns : goal.returns
returns c =
    let d = c.in_default in
    rw (other _ _ d.not-run, other _ _ d.not-resume, other _ _ d.not-make, other _ _ d.not-soak, other _ _ d.not-trees, other _ _ d.not-rank, other _ _ d.not-unrank, other _ _ d.not-split, other _ _ d.not-merge, other _ _ d.not-batch, other _ _ d.not-cross) refl
