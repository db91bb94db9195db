use Rattle.std.proofs.Common.{◌≡◌, ◌+◌, [], List, length, length-append, All, sym, ap, subst, ◌∙◌, arith}
use Rattle.std.proofs.lemmas.List.Elements.{All-push}
use Rattle.atomic_table.specs.Table.{Me}
use Rattle.factor_table.specs.declared.table.FactorSeat.{FactorSeat}
use Rattle.factor_table.specs.declared.table.View.{View}
use Rattle.factor_table.specs.KeyPlaces.{words_of}
use Rattle.factor_table.proofs.Keys.{some_word}
use Rattle.factor_table.proofs.Strides.{words_limited}
use Rattle.factor_table.proofs.Moves.{splits}
use Rattle.factor_table.proofs.table.FactorTable.new.Goals as goal

pub split_seat-seat-requires : goal.split_seat-seat-requires
split_seat-seat-requires c =
    let p = c.in_ok-parameters.parameters in let layout = c.new-layout.result in (
      c.loop.invariant.dealer.0,
      some_word p layout.sizes c.in_ok-table.table.shared.table_id.words layout.limits (c.new-layout.ensures ∙ c.sizes.ensures) c.in_ok-table.ensures.table.1,
      splits (Unit {0}) c.in_ok-table.table.shared.key _ _,
    )

-- both halves of a split of the first seat know no place, and the new seat has made no step
pub loop-preserved : goal.loop-preserved
loop-preserved c =
    let inv = c.loop.invariant in let split = c.split_seat-seat.ensures in let p = c.in_ok-parameters.parameters in
    let id = c.in_ok-table.table.shared.table_id in let M : Type 0 = Me (Unit {0}) View in
    let P : FactorSeat → Type 0 =
    λ s. (s.seat.table_id ≡ id) × (s.seat.me.0.parameters ≡ p) × (s.seat.me.0.known ≡ []) × (s.seat.me.0.moves ≡ []) in
    let Q : List FactorSeat → Type 0 = λ xs. All P xs in record {
      dealer =
          (split.0 ∙ inv.dealer.0, ap (λ (m : M). m.0.parameters) split.2 ∙ inv.dealer.1, ap (λ (m : M). m.0.known) split.2 ∙ inv.dealer.2);
      count = ap length c.push_reserved.ensures.items ∙ length-append c.loop.dealt.items _ ∙ ap (λ n. n + 1) inv.count;
      room = omega (arith, c.push_reserved.ensures.capacity);
      each = subst Q (sym c.push_reserved.ensures.items) (All-push P c.loop.dealt.items _ inv.each (
        split.3 ∙ inv.dealer.0,
        ap (λ (m : M). m.0.parameters) split.4 ∙ inv.dealer.1,
        ap (λ (m : M). m.0.known) split.4 ∙ inv.dealer.2,
        ap (λ (m : M). m.0.moves) split.4,
      ));
    }

pub returns-clause-limited : goal.returns-clause-limited
returns-clause-limited c =
    let p = c.in_ok-parameters.parameters in let layout = c.new-layout.result in
    let few = words_limited layout.sizes layout.limits in let same = ap words_of (c.new-layout.ensures ∙ c.sizes.ensures) in
    let count = c.in_ok-table.ensures.table.1 in omega arith
