-- Worked lists of arguments, with what they ask.
use Rattle.std.proofs.Common.{[], ◌∷◌, Some, None, codes, refl, arith}
use Rattle.command_words.specs.Words.{plain, option, nothing, bare_word, apart, joined}
use Rattle.command_line.specs.declared.table.Commands.TheVariants as commands
use Rattle.command_line.specs.Asked.{Asks}
use Rattle.command_line.specs.Requests as request
use Rattle.command_line.specs.Table as table

sums : Asks commands.All (codes "locus" ∷ codes "run" ∷ codes "f" ∷ codes "--workers=3" ∷ codes "--budget" ∷ codes "+007" ∷ [])
    (request.run (record { file = codes "f"; workers = 3; budget = 7; stop_file = None }))
sums = record {
  rule = table.run;
  items = plain (codes "f") ∷ option (codes "workers") (codes "3") ∷ option (codes "budget") (codes "+007") ∷ [];
  known = (0, omega arith, refl);
  is_use = record {
    first = codes "locus";
    rest = codes "f" ∷ codes "--workers=3" ∷ codes "--budget" ∷ codes "+007" ∷ [];
    split = refl;
    row = (0, omega arith, refl);
    says =
        bare_word (codes "f") _ _ refl
        (joined (codes "workers") (codes "3") _ _ refl (omega arith) (apart (codes "budget") (codes "+007") [] [] refl (omega arith) refl nothing));
    allowed = refl;
  };
  asked = refl;
}

-- a value after `=` may begin with `-`
stops : Asks commands.All (codes "locus" ∷ codes "resume" ∷ codes "--stop-file=-x" ∷ codes "f" ∷ [])
    (request.resume (record { file = codes "f"; workers = 1; budget = 1099511627776; stop_file = Some (codes "-x") }))
stops = record {
  rule = table.resume;
  items = option (codes "stop-file") (codes "-x") ∷ plain (codes "f") ∷ [];
  known = (1, omega arith, refl);
  is_use = record {
    first = codes "locus";
    rest = codes "--stop-file=-x" ∷ codes "f" ∷ [];
    split = refl;
    row = (1, omega arith, refl);
    says = joined (codes "stop-file") (codes "-x") _ _ refl (omega arith) (bare_word (codes "f") [] [] refl nothing);
    allowed = refl;
  };
  asked = refl;
}

splits : Asks commands.All (codes "locus" ∷ codes "split" ∷ codes "f" ∷ codes "64" ∷ codes "63" ∷ [])
    (request.split (codes "f") 64 63 1)
splits = record {
  rule = table.split;
  items = plain (codes "f") ∷ plain (codes "64") ∷ plain (codes "63") ∷ [];
  known = (7, omega arith, refl);
  is_use = record {
    first = codes "locus";
    rest = codes "f" ∷ codes "64" ∷ codes "63" ∷ [];
    split = refl;
    row = (7, omega arith, refl);
    says = bare_word (codes "f") _ _ refl (bare_word (codes "64") _ _ refl (bare_word (codes "63") [] [] refl nothing));
    allowed = refl;
  };
  asked = refl;
}
