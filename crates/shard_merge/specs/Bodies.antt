-- What was read of a text, seen by contracts.
use Rattle.checkpoint.specs.Bodies.{numbers_of}
use Rattle.shard_merge.specs.Texts.{Contents}
use Rattle.shard_merge.specs.declared.body.Body.{Body}

abbrev pub contents_of : Body → Contents
contents_of body = record { source = body.source.now; first = body.first; end = body.end; rows = numbers_of body.rows.items }
