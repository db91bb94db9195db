-- What a seat at the cursor means.
use Rattle.std.specs.Prelude.{◌≡◌, true}
use Rattle.claim_table.specs.declared.claimer.Plan.{Plan}
use Rattle.claim_table.specs.declared.claimer.Record.{Record}
use Rattle.claim_table.specs.declared.cursor.Cursor.{Cursor}
use Rattle.claim_table.specs.declared.cursor.CursorSeat.{CursorSeat}
use Rattle.claim_table.specs.Cursor.{only}

-- how many blocks and workers the round has
abbrev pub board_plan : Cursor → Plan
board_plan b = b.plan

-- what the seat's worker did
abbrev pub seat_record : CursorSeat → Record
seat_record s = only s.seat.me.0

-- the seat is one of this board
abbrev pub IsSeatOf : CursorSeat → Cursor → Type 0
IsSeatOf s b = (s.seat.table_id ≡ b.table.shared.table_id) × (s.seat.me.0.blocks ≡ b.plan.blocks)

-- a take answered no block, and the seat is dry
abbrev pub FoundNone : CursorSeat → CursorSeat → Type 0
FoundNone before after = (seat_record after).dry ≡ true
