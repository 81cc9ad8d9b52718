-- The core phrase of a judged text has few nodes.
use Rattle.std.proofs.Common.{◌≤◌, List, arith}
use Rattle.std.specs.Prelude.{Ok}
use Rattle.fy_base.specs.Outside.{Bytes}
use Rattle.fy_phrase.specs.Tree.{Tree, Trees, no_trees, and_tree, var, lit, unary, binary, cond, case, lam, app, field, sel, merge, let_in, rec, skip, seq, assign, while_do, forever, new, cells, escape, accept, put, read, mark}
use Rattle.fy_phrase.specs.Sizes.{nodes, all_nodes}
use Rattle.fy_phrase.specs.CoreLimits.{size_of, parts_size}
use Rattle.fy_expand.specs.Judged.{IsJudgedFrom}
use Rattle.fy_expand.proofs.PhraseLemmas.{judged-limits}

mutual
  -- the number of nodes is at most that with types counted
  nodes-size : (p : Tree) → nodes p ≤ size_of p
  nodes-size (var k at) = omega arith
  nodes-size (lit v at) = omega arith
  nodes-size (unary op p at) = let x = nodes-size p in omega arith
  nodes-size (binary op p q at) = let x = nodes-size p in let y = nodes-size q in omega arith
  nodes-size (cond b p q at) = let x = nodes-size b in let y = nodes-size p in let z = nodes-size q in omega arith
  nodes-size (case e parts at) = let x = nodes-size e in let y = all_nodes-size parts in omega arith
  nodes-size (lam d As b at) = let x = nodes-size b in omega arith
  nodes-size (app p q at) = let x = nodes-size p in let y = nodes-size q in omega arith
  nodes-size (field i p at) = let x = nodes-size p in omega arith
  nodes-size (sel p i at) = let x = nodes-size p in omega arith
  nodes-size (merge p q at) = let x = nodes-size p in let y = nodes-size q in omega arith
  nodes-size (let_in d p b at) = let x = nodes-size p in let y = nodes-size b in omega arith
  nodes-size (rec d T b at) = let x = nodes-size b in omega arith
  nodes-size (skip at) = omega arith
  nodes-size (seq p q at) = let x = nodes-size p in let y = nodes-size q in omega arith
  nodes-size (assign p q at) = let x = nodes-size p in let y = nodes-size q in omega arith
  nodes-size (while_do b c at) = let x = nodes-size b in let y = nodes-size c in omega arith
  nodes-size (forever c at) = let x = nodes-size c in omega arith
  nodes-size (new d D e b at) = let x = nodes-size e in let y = nodes-size b in omega arith
  nodes-size (cells d e b at) = let x = nodes-size e in let y = nodes-size b in omega arith
  nodes-size (escape d b at) = let x = nodes-size b in omega arith
  nodes-size (accept d D b at) = let x = nodes-size b in omega arith
  nodes-size (put kind p at) = let x = nodes-size p in omega arith
  nodes-size (read p at) = let x = nodes-size p in omega arith
  nodes-size (mark m at) = omega arith

  all_nodes-size : (ps : Trees) → all_nodes ps ≤ parts_size ps
  all_nodes-size no_trees = omega arith
  all_nodes-size (and_tree p ps) = let x = nodes-size p in let y = all_nodes-size ps in omega arith

pub judged-nodes : {names : List Bytes} (text : Bytes) (p : Tree) → IsJudgedFrom names text (Ok p) → nodes p ≤ 65536
judged-nodes text p is = let small = (judged-limits text p is).small in let le = nodes-size p in omega arith
