-- Worked numbers of rounds.
use Rattle.std.proofs.Common.{◌≡◌, refl}
use Rattle.rounds.specs.Rounds.{budget_end, reached, blocks_of_round, blocks_of_rounds}

-- 176,100 trees have rounds of 65,536, 65,536 and 45,028, with 1,024, 1,024 and 704 blocks, of which the last has 36
-- trees
three_rounds : budget_end 176100 0 1099511627776 ≡ 176100
three_rounds = refl

first_round : reached 0 176100 1 ≡ 65536
first_round = refl

second_round : reached 0 176100 2 ≡ 131072
second_round = refl

third_round : reached 0 176100 3 ≡ 176100
third_round = refl

first_blocks : blocks_of_round 0 176100 0 ≡ 1024
first_blocks = refl

last_blocks : blocks_of_round 0 176100 2 ≡ 704
last_blocks = refl

all_blocks : blocks_of_rounds 0 176100 3 ≡ 2752
all_blocks = refl

-- 5,620 trees have one round of 88 blocks
one_round : blocks_of_rounds 0 5620 1 ≡ 88
one_round = refl

-- a budget of 65,537 from the number 3 on has a round of 65,536 and one of a single tree
budget_of_two_rounds : blocks_of_rounds 3 (budget_end 176100 3 65537) 2 ≡ 1025
budget_of_two_rounds = refl

-- no tree is left
no_round : budget_end 8 8 5 ≡ 8
no_round = refl
