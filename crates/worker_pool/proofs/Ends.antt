-- What the loops of all workers make of a round.
use Rattle.std.proofs.Common.{◌≡◌, ℕ, suc, ◌<◌, ◌≤◌, true, arith, length, map, get_or, take, drop, List, [], ◌∷◌, ◌++◌, sym, refl, ap, subst, ◌∙◌}
use Rattle.std.specs.Prelude.{Option, Some, All}
use Rattle.std.proofs.lemmas.List.{append-nil, drop_all, take_all}
use Rattle.claim_table.specs.declared.claimer.Plan.{Plan}
use Rattle.claim_table.specs.declared.claimer.Record.{Record}
use Rattle.claim_table.specs.Counts.{least_of, nothing_bad}
use Rattle.claim_table.specs.Claims.{fresh, all_reported, IsShareOf, IsLegal}
use Rattle.claim_table.proofs.Lists.{length-map_is, get_or-map, get_or_within, some_item, choose}
use Rattle.worker_pool.specs.Rounds.{blocks_of, seens_of, worked, AreLoops, IsRound, IsCleanRound, all_clean, IsLeastOfRound}
use Rattle.worker_pool.proofs.Exact.{exact}

-- a list of the same length, written over all of another
pub whole_again : {A : Type 0} (len : ℕ) (old new : List A) → length new ≡ length old → len ≡ length old
    → take len (new ++ drop (length new) old) ≡ new
whole_again len old new e n =
    rw (drop_all (length new) old (omega arith), append-nil new) (take_all len new (omega arith))

-- The loops of all workers, from fresh seats on.
module _ {S P : Type 0} (g : ℕ → Option ℕ) (stands : P → List (ℕ × ℕ) → Type 0) (record_of : S → Record)
    (old new : List S) (parts parts_after : List P)
    (same_parts : length old ≡ length parts) (some_part : 0 < length parts)
    (begins : (k : ℕ) (d : S) → k < length parts → record_of (get_or old k d) ≡ fresh k)
    (same_seats : length new ≡ length old) (same_after : length parts_after ≡ length parts)
    (loops : AreLoops g stands record_of old parts new parts_after) where
  -- what each worker did, from nothing
  did : (k : ℕ) (s : S) (p : P) → k < length parts → (pairs : List (ℕ × ℕ))
      × (record_of (get_or new k s) ≡ worked g (fresh k) pairs true)
      × ((l : List (ℕ × ℕ)) → stands (get_or parts k p) l → stands (get_or parts_after k p) (l ++ pairs))
      × All (λ q. q.1 ≤ nothing_bad) pairs
  did k s p lt = let w = loops k s p (omega arith) in
      (w.pairs, w.seat ∙ ap (λ (r : Record). worked g r w.pairs true) (begins k s lt), w.grown, w.fits)

  pub ends_dry : (k : ℕ) (d : S) → k < length new → (record_of (get_or new k d)).dry ≡ true
  ends_dry k d lt = ap (λ (r : Record). r.dry) (did k d (some_item parts some_part) (omega arith)).1

  pub ends_in_order : (k : ℕ) (d : S) → k < length new → (record_of (get_or new k d)).worker ≡ k
  ends_in_order k d lt = ap (λ (r : Record). r.worker) (did k d (some_item parts some_part) (omega arith)).1

  module _ (p : Plan) (owners : List ℕ) (least : ℕ) (workers : p.workers ≡ length parts)
      (legal : IsLegal p owners (map (λ s. (record_of s).taken) new))
      (seen : All (λ s. All (λ n. least ≤ n) (record_of s).seens) new) where
    some_seat : S
    some_seat = some_item new (omega arith)

    abbrev Did : ℕ → List (ℕ × ℕ) → Type 0
    Did k ps = (record_of (get_or new k some_seat) ≡ worked g (fresh k) ps true)
        × ((l : List (ℕ × ℕ)) → stands (get_or parts k (some_item parts some_part)) l
        → stands (get_or parts_after k (some_item parts some_part)) (l ++ ps)) × All (λ q. q.1 ≤ nothing_bad) ps

    chosen : (xs : List (List (ℕ × ℕ))) × (length xs ≡ length parts)
        × ((k : ℕ) (d : List (ℕ × ℕ)) → k < length parts → Did k (get_or xs k d))
    chosen = choose Did (length parts) (λ k lt. let w = did k some_seat (some_item parts some_part) lt in
        (w.0, (w.1, w.2, w.3)))

    share_of : (k : ℕ) (ps : List (ℕ × ℕ)) → k < length parts
        → record_of (get_or new k some_seat) ≡ worked g (fresh k) ps true → IsShareOf owners k (blocks_of ps)
    share_of k ps lt e =
        subst (IsShareOf owners k)
        (get_or-map (λ s. (record_of s).taken) new k some_seat [] (omega arith) ∙ ap (λ (r : Record). r.taken) e)
        (legal.shares k (omega arith))

    seens_at : (k : ℕ) (ps : List (ℕ × ℕ)) → k < length parts
        → record_of (get_or new k some_seat) ≡ worked g (fresh k) ps true → All (λ n. least ≤ n) (seens_of ps)
    seens_at k ps lt e = subst (All (λ n. least ≤ n)) (ap (λ (r : Record). r.seens) e) (seen k some_seat (omega arith))

    seen_pair : (ps : List (ℕ × ℕ)) → All (λ n. least ≤ n) (seens_of ps) → (j : ℕ) (q : ℕ × ℕ) → j < length ps
        → least ≤ (get_or ps j q).1
    seen_pair ps h j q lt = let n = length-map_is (λ (r : ℕ × ℕ). r.1) ps in
        let same = get_or-map (λ (r : ℕ × ℕ). r.1) ps j q 0 lt in omega (arith, h j 0 (omega arith))

    pub round : IsRound stands p owners least parts parts_after
    round = let xs = chosen.0 in
        let count = chosen.1 in
        let n = length-map_is blocks_of xs in record {
          pairs = xs;
          legal = record {
            blocks = legal.blocks;
            workers = omega arith;
            owned = legal.owned;
            shares = λ k lt. let w = chosen.2 k [] (omega arith) in
                subst (IsShareOf owners k) (sym (get_or-map blocks_of xs k [] [] (omega arith)))
                (share_of k (get_or xs k []) (omega arith) w.0);
          };
          grown = λ k q lt l s. let w = chosen.2 k [] (omega arith) in
              let some_p : P = some_item parts some_part in
              subst (λ z. stands z (l ++ get_or xs k [])) (get_or_within parts_after k some_p q (omega arith))
              (w.1 l (subst (λ z. stands z l) (get_or_within parts k q some_p (omega arith)) s));
          seen = λ k d lt j q less. let w = chosen.2 k d (omega arith) in
              (seen_pair (get_or xs k d) (seens_at k (get_or xs k d) (omega arith) w.0) j q less, w.2 j q less);
        }

    pub least_bad_is : least ≡ least_of (all_reported (map record_of new))
        → ((b number : ℕ) → b < length owners → g b ≡ Some number → number < nothing_bad)
        → IsLeastOfRound g p.blocks least
    least_bad_is is below = let n = length-map_is record_of new in
        exact g (map record_of new) owners least is (λ b lt. omega (arith, legal.owned b (omega (arith, legal.blocks))))
        (λ k d lt. let w = did k some_seat (some_item parts some_part) (omega arith) in
        let at = get_or-map record_of new k some_seat d (omega arith) in (
          w.0,
          ap (λ (r : Record). r.reported) (at ∙ w.1),
          share_of k w.0 (omega arith) w.1,
          seens_at k w.0 (omega arith) w.1,
        ))
        below (record_of some_seat) p.blocks legal.blocks

clean_pairs : (ps : List (ℕ × ℕ)) → ((j : ℕ) (q : ℕ × ℕ) → j < length ps → (get_or ps j q).1 ≡ nothing_bad)
    → ps ≡ all_clean (blocks_of ps)
clean_pairs [] h = refl
clean_pairs (p ∷ ps) h = λ i. (p.0, h 0 p (omega arith) i) ∷ clean_pairs ps (λ j q lt. h (suc j) q (omega arith)) i

-- a round whose least bad number is 2^64 - 1 found nothing bad
pub clean_round : {P : Type 0} (stands : P → List (ℕ × ℕ) → Type 0) (p : Plan) (owners : List ℕ) (least : ℕ)
    (parts parts_after : List P)
    → IsRound stands p owners least parts parts_after → least ≡ nothing_bad
    → IsCleanRound stands p owners parts parts_after
clean_round stands p owners least parts parts_after h none = let n = length-map_is blocks_of h.pairs in
    let w = h.legal.workers in record {
      blocks = map blocks_of h.pairs;
      legal = h.legal;
      grown = λ k q lt l s.
          let ps : List (ℕ × ℕ) = get_or h.pairs k [] in
          let seen = h.seen k [] (omega arith) in
          let clean = clean_pairs ps (λ j e less. let z = seen j e less in omega (arith, z.0, z.1)) in
          let same : ps ≡ all_clean (get_or (map blocks_of h.pairs) k []) =
          clean ∙ ap all_clean (sym (get_or-map blocks_of h.pairs k [] [] (omega arith))) in
          subst (λ z. stands (get_or parts_after k q) (l ++ z)) same (h.grown k q lt l s);
    }
