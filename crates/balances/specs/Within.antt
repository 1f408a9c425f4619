-- What the functions of a tick ask of a table: its numbers lie in their limits, and its balances far from the ends of 64 bits.
use Rattle.std.specs.Prelude.{ℕ, ◌≤◌, ◌<◌, ◌^◌, ◌≡◌, List, length, ℤ}
use Rattle.numbers.specs.Whole.{plus, minus}
use Rattle.definitions.specs.Limits.{table_length, nodes, last_level, greatest_depth, greatest_rate, most_waiting, second_port}
use Rattle.definitions.specs.Places.{rate, balance, waiting, port, size}
use Rattle.definitions.specs.Tree.{tree_of}

pub record Within (t : List ℤ) : Type 0 where
  pub long : length t ≡ table_length
  pub parent : (k : ℕ) → k < nodes → (tree_of t).parent k < nodes
  pub level : (k : ℕ) → k < nodes → (tree_of t).level k ≤ last_level
  pub depth : (k : ℕ) → k < nodes → (tree_of t).depth k ≤ greatest_depth
  pub rate : (k : ℕ) → k < nodes → rate t k ≤ greatest_rate
  pub credit : (k : ℕ) → k < nodes → plus (balance t k) ≤ 2 ^ 60
  pub debt : (k : ℕ) → k < nodes → minus (balance t k) ≤ 2 ^ 60
  pub waiting : (k : ℕ) → k < nodes → waiting t k ≤ most_waiting
  pub port : (k : ℕ) → k < nodes → port t k ≤ second_port
  pub size : (k : ℕ) → k < nodes → size t k 0 ≤ greatest_depth
