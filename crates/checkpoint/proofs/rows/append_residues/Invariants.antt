use Rattle.std.proofs.Common.{◌≡◌, ◌++◌, drop}
use Rattle.std.specs.List.{flat_map}
use Rattle.checkpoint.specs.Texts.{residue_text}
use Rattle.checkpoint.proofs.rows.append_residues.Given as goal

abbrev pub invariant-loop-residue : goal.invariant-loop-residue
invariant-loop-residue l =
    l.text.items ++ flat_map residue_text
    (drop l.residue-index l.residues) ≡ l.initial.text.items ++ flat_map residue_text l.residues
