use Rattle.std.proofs.Common.{◌≡◌, drop}
use Rattle.locus_io.specs.Content.{file_of, told_files}
use Rattle.locus_io.proofs.memory.find.Given as goal

abbrev pub invariant-loop-file_name : goal.invariant-loop-file_name
invariant-loop-file_name l =
    file_of l.name (told_files (drop l.file_name-index l.files)) ≡ file_of l.name (told_files l.files)
