-- Each move keeps the batch rule.
use Rattle.std.proofs.Common.{◌≡◌, ℕ, ◌<◌, [], ◌∷◌, ◌++◌, length-append, set, min, sym, refl, ap, ◌∙◌, subst, arith}
use mathlib.Core.Logic.{dite}
use native.Mathlib.Decide.{ℕ_discrete}
use Rattle.crossbeam_deque.specs.Tasks.{Pushes, Takes, Finds, FindsFew, Forks, Merges}
use Rattle.claim_table.specs.Counts.{occurrences, total}
use Rattle.claim_table.proofs.Lists.{total-set, total_dealt, total_joined, at_most_total, occurrences-append, nil_is, bit_eq, bit_ne}
use Rattle.job_batch.specs.declared.rule.Hand.{Hand}
use Rattle.job_batch.specs.Batch.{all_seats, hand, empty_hand, answers_of, Knows, IsBatch, Pushed, Answered, FoundEmpty, kept, dealt, gathered}
use Rattle.job_batch.proofs.Hands.{each_set, each_snoc, others_none, all_here, no_longer}

abbrev seats_of : Hand → ℕ
seats_of v = v.seats

pub pushes : (port : ℕ) (v : Hand) (place : ℕ) → v.seats ≡ all_seats → occurrences place v.pushed ≡ 0
    → Pushes IsBatch port v (place ∷ []) (Pushed v (place ∷ []))
pushes port v place alone new deque hands h at =
    let known : v.pushed ≡ h.pushed = (h.knows port v at).0 (omega arith) in
    let w : Hand = hand v.seats (v.pushed ++ place ∷ []) v.answers in
    let whole : total seats_of hands ≡ seats_of v = h.seats ∙ sym alone in (
      w,
      record {
        pushed = h.pushed ++ place ∷ [];
        seats = omega (arith, total-set seats_of hands port v w at, h.seats);
        knows = each_set (Knows (h.pushed ++ place ∷ [])) hands port w
            (λ j u apart e. let none = others_none seats_of hands port v at whole j u apart e in
            ((λ some. absurd (omega arith)), (h.knows j u e).1))
            ((λ _. ap (λ xs. xs ++ place ∷ []) known), λ none. absurd (omega arith));
        once = λ p. let both = occurrences-append p h.pushed (place ∷ []) in
            dite (ℕ_discrete place p)
            (λ is. let gone : occurrences p h.pushed ≡ 0 =
            ap (λ xs. occurrences p xs) (sym known) ∙ ap (λ x. occurrences x v.pushed) (sym is) ∙ new in
            let one = bit_eq place p is in omega arith)
            (λ isnt. let none = bit_ne place p isnt in omega (arith, h.once p));
        somewhere = λ p. omega (
          arith,
          occurrences-append p h.pushed (place ∷ []),
          occurrences-append p deque (place ∷ []),
          total-set (answers_of p) hands port v w at,
          h.somewhere p,
        );
      },
      refl,
    )

pub takes : (port : ℕ) (v : Hand) → 0 < v.seats → Takes IsBatch port v 1 (Answered v)
takes port v seated places deque hands one few h at =
    let known : v.pushed ≡ h.pushed = (h.knows port v at).0 seated in
    let w : Hand = hand v.seats v.pushed (v.answers ++ places) in
    let same : (p : ℕ) → occurrences p v.pushed ≡ occurrences p h.pushed = λ p. ap (occurrences p) known in (
      w,
      record {
        pushed = h.pushed;
        seats = omega (arith, total-set seats_of hands port v w at, h.seats);
        knows = each_set (Knows h.pushed) hands port w (λ j u _ e. h.knows j u e)
            ((λ _. known), λ none. absurd (omega arith));
        once = h.once;
        somewhere = λ p. omega (
          arith,
          occurrences-append p v.answers places,
          occurrences-append p places deque,
          total-set (answers_of p) hands port v w at,
          h.somewhere p,
        );
      },
      record {
        hand_is = refl;
        pushed = λ p there. omega (arith, same p, h.somewhere p, occurrences-append p places deque);
        is_new = λ p there. omega (arith, h.somewhere p, occurrences-append p places deque, h.once p, at_most_total (answers_of p) hands port v at);
        left =
            let fits = no_longer (v.answers ++ places) v.pushed (λ p. omega (
              arith,
              same p,
              h.somewhere p,
              occurrences-append p places deque,
              occurrences-append p v.answers places,
              at_most_total (answers_of p) hands port v at,
            )) in
            omega (arith, length-append v.answers places);
      },
    )

pub finds : (port : ℕ) (v : Hand) → Finds IsBatch port v (FoundEmpty v)
finds port v hands h at alone place =
    let known : v.pushed ≡ h.pushed = (h.knows port v at).0 (omega arith) in
    let same : occurrences place v.pushed ≡ occurrences place h.pushed = ap (occurrences place) known in
    let whole : total (answers_of place) hands ≡ answers_of place v =
    all_here seats_of (answers_of place) hands port v at (h.seats ∙ sym alone) (λ j u e none. ap (occurrences place) ((h.knows j u e).1 none)) in
    omega (arith, h.somewhere place)

pub finds_few : (flavor port : ℕ) (v : Hand) → flavor ≡ 0 → FindsFew IsBatch (min flavor 1) port v (FoundEmpty v)
finds_few flavor port v fifo deque hands few h at =
    finds port v hands (subst (λ xs. IsBatch xs hands) (nil_is deque (omega arith)) h) at

pub deals : (port : ℕ) (v : Hand) → 1 < v.seats → Forks IsBatch port v (kept v) (dealt v)
deals port v two deque hands h at =
    let known : v.pushed ≡ h.pushed = (h.knows port v at).0 (omega arith) in
    record {
      pushed = h.pushed;
      seats = total_dealt seats_of hands port v (kept v) (dealt v) at (omega arith) ∙ h.seats;
      knows = each_snoc (Knows h.pushed) (set hands port (kept v)) (dealt v)
          (each_set (Knows h.pushed) hands port (kept v) (λ j u _ e. h.knows j u e)
          ((λ _. known), λ none. absurd (omega arith)))
          ((λ _. known), λ _. refl);
      once = h.once;
      somewhere = λ p. omega (arith, total_dealt (answers_of p) hands port v (kept v) (dealt v) at (omega arith), h.somewhere p);
    }

pub gathers : (port : ℕ) (v : Hand) (other : ℕ) (w : Hand) → 0 < v.seats
    → Merges IsBatch port v other w (gathered v w) empty_hand
gathers port v other w seated deque hands h at apart at' =
    let known : v.pushed ≡ h.pushed = (h.knows port v at).0 seated in
    record {
      pushed = h.pushed;
      seats = total_joined seats_of hands port other v w (gathered v w) empty_hand at at' (omega arith) ∙ h.seats;
      knows = each_set (Knows h.pushed) (set hands port (gathered v w)) other empty_hand
          (λ j u _ e. each_set (Knows h.pushed) hands port (gathered v w) (λ k x _ f. h.knows k x f)
          ((λ _. known), λ none. absurd (omega arith)) j u e)
          ((λ some. absurd (omega arith)), λ _. refl);
      once = h.once;
      somewhere = λ p. omega (
        arith,
        total_joined (answers_of p) hands port other v w (gathered v w) empty_hand at at' (omega (arith, occurrences-append p v.answers w.answers)),
        h.somewhere p,
      );
    }
