use Rattle.std.proofs.Common.{[], ◌∷◌, ◌++◌, length, map, ap, ◌∙◌, arith}
use Rattle.arithmetic.specs.Numbers.{reduce}
use Rattle.factor_table.proofs.InitialWords.{zero_more, blank}
use Rattle.factor_table.proofs.opening.blank_words.Goals as goal

pub loop-preserved : goal.loop-preserved
loop-preserved c =
    let base = c.push_moduli.new.words.items in let from = c.loop.auto.counter in let start = c.len-counter.ensures in
    c.in_ok-push.ensures.items ∙ ap (λ l. l ++ 0 ∷ []) c.loop.invariant
    ∙ zero_more base (length base) c.loop.counter (omega arith)

pub returns : goal.returns
returns c =
    let p = c.args.parameters.now in let start = c.len-counter.ensures in let within = c.loop.auto.counter-end in
    blank p c.args.layout.now.sizes c.loop.words.items c.push_moduli.new.words.items c.loop.counter c.words-count.result
    (c.in_ok-push_moduli.ensures ∙ ap (λ l. l ++ p.moduli) (c.in_ok-push_weights.ensures ∙ ap (λ l. l ++ map (reduce 18446744073709551616) p.setup) c.in_ok-words.ensures.items))
    c.requires c.words-count.ensures.value c.loop.invariant c.loop-test.false (λ h. within (omega arith))
