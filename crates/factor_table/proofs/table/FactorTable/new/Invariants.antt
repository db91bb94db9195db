use Rattle.std.proofs.Common.{◌≡◌, ◌≤◌, [], length, All, vec_capacity}
use Rattle.factor_table.specs.declared.table.FactorSeat.{FactorSeat}
use Rattle.factor_table.proofs.table.FactorTable.new.Given as goal

abbrev pub invariant-loop : goal.invariant-loop
invariant-loop l = record {
  dealer : (l.dealer.table_id ≡ l.table.shared.table_id) × (l.dealer.me.0.parameters ≡ l.parameters) × (l.dealer.me.0.known ≡ []);
  count : length l.dealt.items ≡ l.counter;
  room : l.seats ≤ vec_capacity l.dealt;
  each : All (λ (s : FactorSeat). (s.seat.table_id ≡ l.table.shared.table_id) × (s.seat.me.0.parameters ≡ l.parameters) × (s.seat.me.0.known ≡ []) × (s.seat.me.0.moves ≡ [])) l.dealt.items;
}
