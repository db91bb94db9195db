-- What was read of a body, seen by contracts.
use Rattle.std.specs.Prelude.{ℕ, List, map}
use Rattle.std.specs.Global.{Vec}
use Rattle.checkpoint.specs.Texts.{Contents}
use Rattle.checkpoint.specs.declared.body.Body.{Body}

abbrev pub numbers_of : List (Vec ℕ) → List (List ℕ)
numbers_of rows = map (λ row. row.items) rows

abbrev pub contents_of : Body → Contents
contents_of body = record { version = body.version; source = body.source.now; next = body.next; rows = numbers_of body.rows.items }
