use Rattle.std.proofs.Common.{◌≡◌, ◌++◌, ◌-◌, ◌*◌, length}
use Rattle.std.specs.List.{flat_map}
use Rattle.checkpoint.specs.Texts.{residues_line, rows_of}
use Rattle.checkpoint.proofs.rows.append_rows.Given as goal

abbrev pub invariant-loop : goal.invariant-loop
invariant-loop l = record {
  written : l.text.items ++ flat_map residues_line (rows_of l.moduli (l.count - l.counter) l.rest) ≡ l.fn.text.items ++ flat_map residues_line (rows_of l.moduli l.count l.residues);
  room : length l.rest ≡ (l.count - l.counter) * l.moduli;
}
