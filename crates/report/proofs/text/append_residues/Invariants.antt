use Rattle.std.proofs.Common.{◌≡◌, ◌++◌, length, drop}
use Rattle.report.specs.Texts.{residue_lines}
use Rattle.report.proofs.text.append_residues.Given as goal

abbrev pub invariant-loop-modulus : goal.invariant-loop-modulus
invariant-loop-modulus l =
    l.text.items ++ residue_lines (drop (length l.yielded) l.moduli)
    (drop (length l.yielded) l.residues) ≡ l.initial.text.items ++ residue_lines l.moduli l.residues
