-- Forms of terms, read step by step: what the whole gives where each step is read, and where one stops.
use Rattle.std.proofs.Common.{◌≡◌, ℕ, List, refl}
use Rattle.std.specs.Prelude.{Ok}
use Rattle.fy_base.specs.declared.data.Place.{Place}
use Rattle.fy_types.specs.declared.types.Atom.{Atom}
use Rattle.fy_lexer.specs.declared.token.Token.{Token}
use Rattle.fy_lexer.specs.declared.token.Keyword.TheVariants as word
use Rattle.fy_lexer.specs.declared.token.Symbol.TheVariants as symbol
use Rattle.fy_syntax.specs.Trees.{TypeTree, Tree}
use Rattle.fy_syntax.specs.Signs.{front}
use Rattle.fy_syntax.specs.Reader.{expect, expect_word, name_at, data_at, Inner, def_at, let_type_at, new_at, escape_at, accept_at, cond_at, while_at}
use Rattle.fy_grammar.specs.Gives.{Stops}
use Rattle.fy_grammar.specs.declared.stop.Stop.{Stop}
use Rattle.fy_grammar.proofs.Stopping.{stops_bind, stops_mapped}

pub escape_stops_0 : (i : Inner) (p : Place) (ts : List Token) (s : Stop) → Stops s (name_at ts) → Stops s (escape_at i p ts)
escape_stops_0 i p ts s h = stops_bind s (name_at ts) _ h

pub escape_stops_1 : (i : Inner) (p : Place) (ts : List Token) (n : ℕ) (m : List Token) (s : Stop) → name_at ts ≡ Ok (n, m) → Stops s (expect_word word.In m) → Stops s (escape_at i p ts)
escape_stops_1 i p ts n m s e0 h = rw e0 (stops_bind s (expect_word word.In m) _ h)

pub escape_stops_2 : (i : Inner) (p : Place) (ts : List Token) (n : ℕ) (m : List Token) (k : List Token) (s : Stop) → name_at ts ≡ Ok (n, m) → expect_word word.In m ≡ Ok k → Stops s (i.term k) → Stops s (escape_at i p ts)
escape_stops_2 i p ts n m k s e0 e1 h = rw e0 (rw e1 (stops_mapped s _ (i.term k) h))

pub escape_read : (i : Inner) (p : Place) (ts : List Token) (n : ℕ) (m : List Token) (k : List Token) (t : Tree) (r : List Token) → name_at ts ≡ Ok (n, m) → expect_word word.In m ≡ Ok k → i.term k ≡ Ok (t, r) → escape_at i p ts ≡ Ok (Tree.escape n t p, r)
escape_read i p ts n m k t r e0 e1 e2 = rw e0 (rw e1 (rw e2 refl))

pub accept_stops_0 : (i : Inner) (p : Place) (ts : List Token) (s : Stop) → Stops s (name_at ts) → Stops s (accept_at i p ts)
accept_stops_0 i p ts s h = stops_bind s (name_at ts) _ h

pub accept_stops_1 : (i : Inner) (p : Place) (ts : List Token) (n : ℕ) (m : List Token) (s : Stop) → name_at ts ≡ Ok (n, m) → Stops s (expect symbol.Colon m) → Stops s (accept_at i p ts)
accept_stops_1 i p ts n m s e0 h = rw e0 (stops_bind s (expect symbol.Colon m) _ h)

pub accept_stops_2 : (i : Inner) (p : Place) (ts : List Token) (n : ℕ) (m : List Token) (k : List Token) (s : Stop) → name_at ts ≡ Ok (n, m) → expect symbol.Colon m ≡ Ok k → Stops s (data_at k) → Stops s (accept_at i p ts)
accept_stops_2 i p ts n m k s e0 e1 h = rw e0 (rw e1 (stops_bind s (data_at k) _ h))

pub accept_stops_3 : (i : Inner) (p : Place) (ts : List Token) (n : ℕ) (m : List Token) (k : List Token) (d : Atom) (j : List Token) (s : Stop) → name_at ts ≡ Ok (n, m) → expect symbol.Colon m ≡ Ok k → data_at k ≡ Ok (d, j) → Stops s (expect_word word.In j) → Stops s (accept_at i p ts)
accept_stops_3 i p ts n m k d j s e0 e1 e2 h = rw e0 (rw e1 (rw e2 (stops_bind s (expect_word word.In j) _ h)))

pub accept_stops_4 : (i : Inner) (p : Place) (ts : List Token) (n : ℕ) (m : List Token) (k : List Token) (d : Atom) (j : List Token) (l : List Token) (s : Stop) → name_at ts ≡ Ok (n, m) → expect symbol.Colon m ≡ Ok k → data_at k ≡ Ok (d, j) → expect_word word.In j ≡ Ok l → Stops s (i.term l) → Stops s (accept_at i p ts)
accept_stops_4 i p ts n m k d j l s e0 e1 e2 e3 h = rw e0 (rw e1 (rw e2 (rw e3 (stops_mapped s _ (i.term l) h))))

pub accept_read : (i : Inner) (p : Place) (ts : List Token) (n : ℕ) (m : List Token) (k : List Token) (d : Atom) (j : List Token) (l : List Token) (t : Tree) (r : List Token) → name_at ts ≡ Ok (n, m) → expect symbol.Colon m ≡ Ok k → data_at k ≡ Ok (d, j) → expect_word word.In j ≡ Ok l → i.term l ≡ Ok (t, r) → accept_at i p ts ≡ Ok (Tree.accept n d t p, r)
accept_read i p ts n m k d j l t r e0 e1 e2 e3 e4 = rw e0 (rw e1 (rw e2 (rw e3 (rw e4 refl))))

pub new_stops_0 : (i : Inner) (p : Place) (ts : List Token) (s : Stop) → Stops s (name_at ts) → Stops s (new_at i p ts)
new_stops_0 i p ts s h = stops_bind s (name_at ts) _ h

pub new_stops_1 : (i : Inner) (p : Place) (ts : List Token) (n : ℕ) (m : List Token) (s : Stop) → name_at ts ≡ Ok (n, m) → Stops s (expect symbol.Colon m) → Stops s (new_at i p ts)
new_stops_1 i p ts n m s e0 h = rw e0 (stops_bind s (expect symbol.Colon m) _ h)

pub new_stops_2 : (i : Inner) (p : Place) (ts : List Token) (n : ℕ) (m : List Token) (k : List Token) (s : Stop) → name_at ts ≡ Ok (n, m) → expect symbol.Colon m ≡ Ok k → Stops s (data_at k) → Stops s (new_at i p ts)
new_stops_2 i p ts n m k s e0 e1 h = rw e0 (rw e1 (stops_bind s (data_at k) _ h))

pub new_stops_3 : (i : Inner) (p : Place) (ts : List Token) (n : ℕ) (m : List Token) (k : List Token) (d : Atom) (j : List Token) (s : Stop) → name_at ts ≡ Ok (n, m) → expect symbol.Colon m ≡ Ok k → data_at k ≡ Ok (d, j) → Stops s (expect symbol.ColonEquals j) → Stops s (new_at i p ts)
new_stops_3 i p ts n m k d j s e0 e1 e2 h = rw e0 (rw e1 (rw e2 (stops_bind s (expect symbol.ColonEquals j) _ h)))

pub new_stops_4 : (i : Inner) (p : Place) (ts : List Token) (n : ℕ) (m : List Token) (k : List Token) (d : Atom) (j : List Token) (l : List Token) (s : Stop) → name_at ts ≡ Ok (n, m) → expect symbol.Colon m ≡ Ok k → data_at k ≡ Ok (d, j) → expect symbol.ColonEquals j ≡ Ok l → Stops s (i.term l) → Stops s (new_at i p ts)
new_stops_4 i p ts n m k d j l s e0 e1 e2 e3 h = rw e0 (rw e1 (rw e2 (rw e3 (stops_bind s (i.term l) _ h))))

pub new_stops_5 : (i : Inner) (p : Place) (ts : List Token) (n : ℕ) (m : List Token) (k : List Token) (d : Atom) (j : List Token) (l : List Token) (t : Tree) (o : List Token) (s : Stop) → name_at ts ≡ Ok (n, m) → expect symbol.Colon m ≡ Ok k → data_at k ≡ Ok (d, j) → expect symbol.ColonEquals j ≡ Ok l → i.term l ≡ Ok (t, o) → Stops s (expect_word word.In o) → Stops s (new_at i p ts)
new_stops_5 i p ts n m k d j l t o s e0 e1 e2 e3 e4 h = rw e0 (rw e1 (rw e2 (rw e3 (rw e4 (stops_bind s (expect_word word.In o) _ h)))))

pub new_stops_6 : (i : Inner) (p : Place) (ts : List Token) (n : ℕ) (m : List Token) (k : List Token) (d : Atom) (j : List Token) (l : List Token) (t : Tree) (o : List Token) (q : List Token) (s : Stop) → name_at ts ≡ Ok (n, m) → expect symbol.Colon m ≡ Ok k → data_at k ≡ Ok (d, j) → expect symbol.ColonEquals j ≡ Ok l → i.term l ≡ Ok (t, o) → expect_word word.In o ≡ Ok q → Stops s (i.term q) → Stops s (new_at i p ts)
new_stops_6 i p ts n m k d j l t o q s e0 e1 e2 e3 e4 e5 h = rw e0 (rw e1 (rw e2 (rw e3 (rw e4 (rw e5 (stops_mapped s _ (i.term q) h))))))

pub new_read : (i : Inner) (p : Place) (ts : List Token) (n : ℕ) (m : List Token) (k : List Token) (d : Atom) (j : List Token) (l : List Token) (t : Tree) (o : List Token) (q : List Token) (u : Tree) (r : List Token) → name_at ts ≡ Ok (n, m) → expect symbol.Colon m ≡ Ok k → data_at k ≡ Ok (d, j) → expect symbol.ColonEquals j ≡ Ok l → i.term l ≡ Ok (t, o) → expect_word word.In o ≡ Ok q → i.term q ≡ Ok (u, r) → new_at i p ts ≡ Ok (Tree.new n d t u p, r)
new_read i p ts n m k d j l t o q u r e0 e1 e2 e3 e4 e5 e6 = rw e0 (rw e1 (rw e2 (rw e3 (rw e4 (rw e5 (rw e6 refl))))))

pub let_type_stops_0 : (i : Inner) (p : Place) (ts : List Token) (s : Stop) → Stops s (name_at ts) → Stops s (let_type_at i p ts)
let_type_stops_0 i p ts s h = stops_bind s (name_at ts) _ h

pub let_type_stops_1 : (i : Inner) (p : Place) (ts : List Token) (n : ℕ) (m : List Token) (s : Stop) → name_at ts ≡ Ok (n, m) → Stops s (expect symbol.EqualsEquals m) → Stops s (let_type_at i p ts)
let_type_stops_1 i p ts n m s e0 h = rw e0 (stops_bind s (expect symbol.EqualsEquals m) _ h)

pub let_type_stops_2 : (i : Inner) (p : Place) (ts : List Token) (n : ℕ) (m : List Token) (k : List Token) (s : Stop) → name_at ts ≡ Ok (n, m) → expect symbol.EqualsEquals m ≡ Ok k → Stops s (i.type k) → Stops s (let_type_at i p ts)
let_type_stops_2 i p ts n m k s e0 e1 h = rw e0 (rw e1 (stops_bind s (i.type k) _ h))

pub let_type_stops_3 : (i : Inner) (p : Place) (ts : List Token) (n : ℕ) (m : List Token) (k : List Token) (a : TypeTree) (j : List Token) (s : Stop) → name_at ts ≡ Ok (n, m) → expect symbol.EqualsEquals m ≡ Ok k → i.type k ≡ Ok (a, j) → Stops s (expect_word word.In j) → Stops s (let_type_at i p ts)
let_type_stops_3 i p ts n m k a j s e0 e1 e2 h = rw e0 (rw e1 (rw e2 (stops_bind s (expect_word word.In j) _ h)))

pub let_type_stops_4 : (i : Inner) (p : Place) (ts : List Token) (n : ℕ) (m : List Token) (k : List Token) (a : TypeTree) (j : List Token) (l : List Token) (s : Stop) → name_at ts ≡ Ok (n, m) → expect symbol.EqualsEquals m ≡ Ok k → i.type k ≡ Ok (a, j) → expect_word word.In j ≡ Ok l → Stops s (i.term l) → Stops s (let_type_at i p ts)
let_type_stops_4 i p ts n m k a j l s e0 e1 e2 e3 h = rw e0 (rw e1 (rw e2 (rw e3 (stops_mapped s _ (i.term l) h))))

pub let_type_read : (i : Inner) (p : Place) (ts : List Token) (n : ℕ) (m : List Token) (k : List Token) (a : TypeTree) (j : List Token) (l : List Token) (t : Tree) (r : List Token) → name_at ts ≡ Ok (n, m) → expect symbol.EqualsEquals m ≡ Ok k → i.type k ≡ Ok (a, j) → expect_word word.In j ≡ Ok l → i.term l ≡ Ok (t, r) → let_type_at i p ts ≡ Ok (Tree.let_type n a t p, r)
let_type_read i p ts n m k a j l t r e0 e1 e2 e3 e4 = rw e0 (rw e1 (rw e2 (rw e3 (rw e4 refl))))

pub cond_stops_0 : (i : Inner) (p : Place) (ts : List Token) (s : Stop) → Stops s (i.term ts) → Stops s (cond_at i p ts)
cond_stops_0 i p ts s h = stops_bind s (i.term ts) _ h

pub cond_stops_1 : (i : Inner) (p : Place) (ts : List Token) (b : Tree) (m : List Token) (s : Stop) → i.term ts ≡ Ok (b, m) → Stops s (expect_word word.Then m) → Stops s (cond_at i p ts)
cond_stops_1 i p ts b m s e0 h = rw e0 (stops_bind s (expect_word word.Then m) _ h)

pub cond_stops_2 : (i : Inner) (p : Place) (ts : List Token) (b : Tree) (m : List Token) (k : List Token) (s : Stop) → i.term ts ≡ Ok (b, m) → expect_word word.Then m ≡ Ok k → Stops s (i.term k) → Stops s (cond_at i p ts)
cond_stops_2 i p ts b m k s e0 e1 h = rw e0 (rw e1 (stops_bind s (i.term k) _ h))

pub cond_stops_3 : (i : Inner) (p : Place) (ts : List Token) (b : Tree) (m : List Token) (k : List Token) (t : Tree) (j : List Token) (s : Stop) → i.term ts ≡ Ok (b, m) → expect_word word.Then m ≡ Ok k → i.term k ≡ Ok (t, j) → Stops s (expect_word word.Else j) → Stops s (cond_at i p ts)
cond_stops_3 i p ts b m k t j s e0 e1 e2 h = rw e0 (rw e1 (rw e2 (stops_bind s (expect_word word.Else j) _ h)))

pub cond_stops_4 : (i : Inner) (p : Place) (ts : List Token) (b : Tree) (m : List Token) (k : List Token) (t : Tree) (j : List Token) (l : List Token) (s : Stop) → i.term ts ≡ Ok (b, m) → expect_word word.Then m ≡ Ok k → i.term k ≡ Ok (t, j) → expect_word word.Else j ≡ Ok l → Stops s (i.term l) → Stops s (cond_at i p ts)
cond_stops_4 i p ts b m k t j l s e0 e1 e2 e3 h = rw e0 (rw e1 (rw e2 (rw e3 (stops_mapped s _ (i.term l) h))))

pub cond_read : (i : Inner) (p : Place) (ts : List Token) (b : Tree) (m : List Token) (k : List Token) (t : Tree) (j : List Token) (l : List Token) (u : Tree) (r : List Token) → i.term ts ≡ Ok (b, m) → expect_word word.Then m ≡ Ok k → i.term k ≡ Ok (t, j) → expect_word word.Else j ≡ Ok l → i.term l ≡ Ok (u, r) → cond_at i p ts ≡ Ok (Tree.cond b t u p, r)
cond_read i p ts b m k t j l u r e0 e1 e2 e3 e4 = rw e0 (rw e1 (rw e2 (rw e3 (rw e4 refl))))

pub while_stops_0 : (i : Inner) (p : Place) (ts : List Token) (s : Stop) → Stops s (i.term ts) → Stops s (while_at i p ts)
while_stops_0 i p ts s h = stops_bind s (i.term ts) _ h

pub while_stops_1 : (i : Inner) (p : Place) (ts : List Token) (b : Tree) (m : List Token) (s : Stop) → i.term ts ≡ Ok (b, m) → Stops s (expect_word word.Do m) → Stops s (while_at i p ts)
while_stops_1 i p ts b m s e0 h = rw e0 (stops_bind s (expect_word word.Do m) _ h)

pub while_stops_2 : (i : Inner) (p : Place) (ts : List Token) (b : Tree) (m : List Token) (k : List Token) (s : Stop) → i.term ts ≡ Ok (b, m) → expect_word word.Do m ≡ Ok k → Stops s (i.term k) → Stops s (while_at i p ts)
while_stops_2 i p ts b m k s e0 e1 h = rw e0 (rw e1 (stops_mapped s _ (i.term k) h))

pub while_read : (i : Inner) (p : Place) (ts : List Token) (b : Tree) (m : List Token) (k : List Token) (t : Tree) (r : List Token) → i.term ts ≡ Ok (b, m) → expect_word word.Do m ≡ Ok k → i.term k ≡ Ok (t, r) → while_at i p ts ≡ Ok (Tree.while_do b t p, r)
while_read i p ts b m k t r e0 e1 e2 = rw e0 (rw e1 (rw e2 refl))

pub def_stops_0 : (i : Inner) (ts : List Token) (s : Stop) → Stops s (name_at ts) → Stops s (def_at i.term ts)
def_stops_0 i ts s h = stops_bind s (name_at ts) _ h

pub def_stops_1 : (i : Inner) (ts : List Token) (n : ℕ) (m : List Token) (s : Stop) → name_at ts ≡ Ok (n, m) → Stops s (expect symbol.EqualsEquals m) → Stops s (def_at i.term ts)
def_stops_1 i ts n m s e0 h = rw e0 (stops_bind s (expect symbol.EqualsEquals m) _ h)

pub def_stops_2 : (i : Inner) (ts : List Token) (n : ℕ) (m : List Token) (k : List Token) (s : Stop) → name_at ts ≡ Ok (n, m) → expect symbol.EqualsEquals m ≡ Ok k → Stops s (i.term k) → Stops s (def_at i.term ts)
def_stops_2 i ts n m k s e0 e1 h = rw e0 (rw e1 (stops_mapped s _ (i.term k) h))

pub def_read : (i : Inner) (ts : List Token) (n : ℕ) (m : List Token) (k : List Token) (t : Tree) (r : List Token) → name_at ts ≡ Ok (n, m) → expect symbol.EqualsEquals m ≡ Ok k → i.term k ≡ Ok (t, r) → def_at i.term ts ≡ Ok (record { name = n; at = front ts; body = t }, r)
def_read i ts n m k t r e0 e1 e2 = rw e0 (rw e1 (rw e2 refl))

-- the steps of each form
pub ruleset escape_steps = (escape_stops_0, escape_stops_1, escape_stops_2, escape_read)

pub ruleset accept_steps = (accept_stops_0, accept_stops_1, accept_stops_2, accept_stops_3, accept_stops_4, accept_read)

pub ruleset new_steps = (new_stops_0, new_stops_1, new_stops_2, new_stops_3, new_stops_4, new_stops_5, new_stops_6, new_read)

pub ruleset let_type_steps = (let_type_stops_0, let_type_stops_1, let_type_stops_2, let_type_stops_3, let_type_stops_4, let_type_read)

pub ruleset cond_steps = (cond_stops_0, cond_stops_1, cond_stops_2, cond_stops_3, cond_stops_4, cond_read)

pub ruleset while_steps = (while_stops_0, while_stops_1, while_stops_2, while_read)

pub ruleset def_steps = (def_stops_0, def_stops_1, def_stops_2, def_read)
