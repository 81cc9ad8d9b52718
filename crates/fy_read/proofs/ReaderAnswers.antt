-- What the functions of a reader do, over what its parts stand for.
use Rattle.std.proofs.Common.{◌≡◌, ◌⊎◌, inl, inr, ℕ, ◌<◌, Bool, true, false, not, List, [], ◌∷◌, ◌++◌, length, refl, ap, sym, ◌∙◌, subst, arith, append_assoc, ne_eqb}
use Rattle.std.specs.Prelude.{Some, None, decimal, ◌==◌}
use Rattle.std.proofs.lemmas.Bool.Decides.{nat_tests}
use Rattle.fy_base.specs.Outside.{Bytes}
use Rattle.fy_lexer.proofs.NamesLemmas.{HasAdded-none}
use Rattle.fy_types.specs.Types.{PlainType}
use Rattle.fy_read.specs.declared.counts.Counted.{Counted}
use Rattle.fy_read.specs.declared.read.Awaited.{Awaited}
use Rattle.fy_read.specs.declared.read.Awaited.TheVariants as awaited
use Rattle.fy_read.specs.declared.read.Begun as declared
use Rattle.fy_read.specs.declared.read.Begun.TheVariants as variant
use Rattle.fy_read.specs.declared.read.Reader.{Reader}
use Rattle.fy_read.specs.declared.words.NodeWord.{NodeWord}
use Rattle.fy_read.specs.Halfway.{Holds}
use Rattle.fy_read.specs.Opened.{in_sub, PlainNodes, with_node, extra, needed, AreWaiting}
use Rattle.fy_read.specs.OpenTypes.{PlainLevel, PlainLevels, no_levels, whole_type, with_domain, with_inner, with_open, with_closed, TakesPart, TakesJoint, IsMeetDeep, IsArrowDeep}
use Rattle.fy_read.specs.Readers.{reached_by, begun_by, IsUnfinished, MayBegin, IsBegun, AreFit, AreSound, AreLed}
use Rattle.fy_read.specs.ReadSoFar.{HoldsBefore, HoldsDash, HoldsAt, IsRead, at_piece, in_word, in_number, in_dash}
use Rattle.fy_read.specs.Refusals.{most_open_parens}
use Rattle.fy_read.specs.Spelling.{sign, open_bracket, close_bracket, open_paren, close_paren, colon, arrow, ampersand}
use Rattle.fy_read.specs.Steps.{spot, after_node, nothing, step, signed, lettered, node_word, begins_node_word}
use Rattle.fy_read.proofs.ByteLemmas.{chosen_not}
use Rattle.fy_read.proofs.HalfwayLemmas.{Holds-piece, stand_bracket, stand_inside, stand_end}
use Rattle.fy_read.proofs.LevelLemmas.{ampersand_room, arrow_room}
use Rattle.fy_read.proofs.MoveLemmas.{move_bracket, move_paren, move_colon, move_ampersand, move_arrow, move_close, move_end}
use Rattle.fy_read.proofs.ReaderLemmas.{led_from, holds_from, led_part, lettered-known, led_beginning, lettered-none, may_node, no_bracket, no_paren, no_colon, no_joint, no_close, no_end, no_sign_node, no_sign_count, led_open_bracket, led_paren, led_colon, led_ampersand, led_dash, led_close, led_end}
use Rattle.fy_read.proofs.ReadTypes.{next_behind_name, next_member, next_codomain, next_inside, last_group}
use Rattle.fy_read.proofs.PassLemmas.{no_sign}

-- ---- what has begun
pub read_word : {names : List Bytes} {text : Bytes} {r : Reader} → r.begun ≡ variant.Word → IsRead names text r →
    HoldsBefore names text r.letters.items r
read_word e (at_piece is h) = absurd cc
read_word e (in_word is h) = h
read_word e (in_number n is h) = absurd cc
read_word e (in_dash is h) = absurd cc

pub read_number : {names : List Bytes} {text : Bytes} {r : Reader} (v : ℕ) → r.begun ≡ variant.Number v → IsRead names text r →
    HoldsBefore names text (decimal v) r
read_number v e (at_piece is h) = absurd cc
read_number v e (in_word is h) = absurd cc
read_number {names = names} {text = text} {r = r} v e (in_number n is h) =
    let same : n ≡ v = cc in subst (λ n. HoldsBefore names text (decimal n) r) same h
read_number v e (in_dash is h) = absurd cc

pub read_dash : {names : List Bytes} {text : Bytes} {r : Reader} → r.begun ≡ variant.Dash → IsRead names text r → HoldsDash names text r
read_dash e (at_piece is h) = absurd cc
read_dash e (in_word is h) = absurd cc
read_dash e (in_number n is h) = absurd cc
read_dash e (in_dash is h) = h

pub read_piece : {names : List Bytes} {text : Bytes} {r : Reader} → r.begun ≡ variant.Nothing → IsRead names text r → HoldsAt names text r.is_loose r
read_piece e (at_piece is h) = h
read_piece e (in_word is h) = absurd cc
read_piece e (in_number n is h) = absurd cc
read_piece e (in_dash is h) = absurd cc

-- the option that leads on, at equal parts
led_sign : {a a' a2 : Awaited} {b : declared.Begun} {w : Bytes} {l : Bool} {m : PlainNodes} {Ks : PlainLevels} (n : PlainNodes) (k x y : ℕ) → a ≡ a' →
    x ≡ y →
    AreLed (signed (reached_by a' n k) y) a2 b w l m Ks → AreLed (signed (reached_by a n k) x) a2 b w l m Ks
led_sign {a' = a'} {a2 = a2} {b = b} {w = w} {l = l} {m = m} {Ks = Ks} n k x y ea ex h =
    subst (λ a. AreLed (signed (reached_by a n k) x) a2 b w l m Ks) (sym ea) (subst (λ x. AreLed (signed (reached_by a' n k) x) a2 b w l m Ks)
    (sym ex) h)

unfinished_at : {a : Awaited} (n : PlainNodes) (a' : Awaited) → a ≡ a' → IsUnfinished a n → IsUnfinished a' n
unfinished_at n a' e h = subst (λ a. IsUnfinished a n) e h

fit_at : {a : Awaited} (Ls : PlainLevels) (a' : Awaited) → a ≡ a' → AreFit a Ls → AreFit a' Ls
fit_at Ls a' e h = subst (λ a. AreFit a Ls) e h

none_at : {a : Awaited} (n : PlainNodes) (k x : ℕ) (a' : Awaited) → a ≡ a' → signed (reached_by a' n k) x ≡ None → signed (reached_by a n k) x ≡ None
none_at n k x a' e h = subst (λ a. signed (reached_by a n k) x ≡ None) (sym e) h

-- ---- a bracket
pub bracket_led : {a : Awaited} {b : declared.Begun} {w : Bytes} {l : Bool} {n : PlainNodes} {Ls Ks : PlainLevels} {x : ℕ} →
    AreSound a b w l n Ls → b ≡ variant.Nothing → l ≡ false → a ≡ awaited.Bracket → x ≡ 91 → Ks ≡ no_levels →
    AreLed (signed (reached_by a n (length Ls.outer)) x) awaited.Part b w l n Ks
bracket_led {n = n} {Ls = Ls} {x = x} s eb el ea ex eK =
    led_sign n (length Ls.outer) x 91 ea ex (led_from refl eb refl el refl eK
    (led_open_bracket n (length Ls.outer) (unfinished_at n awaited.Bracket ea s.unfinished) s.waiting))

pub bracket_misfit : {a : Awaited} {x : ℕ} (n : PlainNodes) (k : ℕ) → a ≡ awaited.Bracket → (x ≡ 91 → ⊥) → signed (reached_by a n k) x ≡ None
bracket_misfit {x = x} n k ea other = none_at n k x awaited.Bracket ea (no_bracket (extra n.waiting) 0 x other)

text_at : {q : ℕ} {names : List Bytes} {l : Bool} {a : Awaited} {n : PlainNodes} {Ls : PlainLevels} {x y : ℕ} (text : Bytes) → x ≡ y →
    Holds q names (text ++ y ∷ []) l a n Ls → Holds q names (text ++ x ∷ []) l a n Ls
text_at {q = q} {names = names} {l = l} {a = a} {n = n} {Ls = Ls} text e h = subst (λ x. Holds q names (text ++ x ∷ []) l a n Ls) (sym e) h

at_awaited : {q : ℕ} {names : List Bytes} {text : Bytes} {l : Bool} {a : Awaited} {n : PlainNodes} {Ls : PlainLevels} (a' : Awaited) → a ≡ a' →
    Holds q names text l a n Ls → Holds q names text l a' n Ls
at_awaited {q = q} {names = names} {text = text} {l = l} {n = n} {Ls = Ls} a' e h = subst (λ a. Holds q names text l a n Ls) e h

pub bracket_read : {q : ℕ} {names : List Bytes} {text : Bytes} {k l : Bool} {a : Awaited} {n : PlainNodes} {Ls Ks : PlainLevels} {x : ℕ} → l ≡ false →
    a ≡ awaited.Bracket → x ≡ 91 → Ks ≡ no_levels →
    Holds q names text k a n Ls → Holds q names (text ++ x ∷ []) l awaited.Part n Ks
bracket_read {text = text} {k = k} el ea ex eK h =
    text_at text ex (holds_from refl el refl refl eK (Holds-piece (sign open_bracket) (no_sign k) (move_bracket _ _) (λ ps g. stand_bracket g)
    (at_awaited awaited.Bracket ea h)))

-- a parenthesis
pub paren_led : {a : Awaited} {b : declared.Begun} {w : Bytes} {l : Bool} {n : PlainNodes} {Ls Ks : PlainLevels} {x : ℕ} →
    AreSound a b w l n Ls → b ≡ variant.Nothing → l ≡ false → a ≡ awaited.Part → x ≡ 40 → Ks ≡ with_open Ls →
    AreLed (signed (reached_by a n (length Ls.outer)) x) a b w l n Ks
paren_led {n = n} {Ls = Ls} {x = x} s eb el ea ex eK =
    led_sign n (length Ls.outer) x 40 ea ex (led_from ea eb refl el refl eK
    (led_paren n Ls (unfinished_at n awaited.Part ea s.unfinished) s.waiting (fit_at Ls awaited.Part ea s.levels)))

pub paren_misfit : {a : Awaited} {x : ℕ} (n : PlainNodes) (k : ℕ) → a ≡ awaited.Part → (x ≡ 40 → ⊥) → signed (reached_by a n k) x ≡ None
paren_misfit {x = x} n k ea other = none_at n k x awaited.Part ea (no_paren (extra n.waiting) k x other)

pub paren_read : {q : ℕ} {names : List Bytes} {text : Bytes} {k l : Bool} {a : Awaited} {n : PlainNodes} {Ks : PlainLevels} {x : ℕ}
    (Ls : PlainLevels) →
    l ≡ false → a ≡ awaited.Part → x ≡ 40 → Ks ≡ with_open Ls → length Ls.outer < most_open_parens →
    Holds q names text k a n Ls → Holds q names (text ++ x ∷ []) l a n Ks
paren_read {names = names} {text = text} {k = k} Ls el ea ex eK few h =
    text_at text ex (holds_from refl el ea refl eK (Holds-piece (sign open_paren) (no_sign k) (move_paren _ Ls few)
    (λ ps g. stand_inside (sign open_paren) (HasAdded-none names) (λ us i. next_inside Ls i) g) (at_awaited awaited.Part ea h)))

-- a colon
pub colon_led : {a : Awaited} {b : declared.Begun} {w : Bytes} {l : Bool} {n : PlainNodes} {Ls : PlainLevels} {x : ℕ} →
    AreSound a b w l n Ls → b ≡ variant.Nothing → l ≡ false → a ≡ awaited.Colon → x ≡ 58 →
    AreLed (signed (reached_by a n (length Ls.outer)) x) awaited.Part b w l n Ls
colon_led {n = n} {Ls = Ls} {x = x} s eb el ea ex =
    led_sign n (length Ls.outer) x 58 ea ex (led_from refl eb refl el refl refl
    (led_colon n Ls (unfinished_at n awaited.Colon ea s.unfinished) s.waiting (fit_at Ls awaited.Colon ea s.levels)))

pub colon_misfit : {a : Awaited} {x : ℕ} (n : PlainNodes) (k : ℕ) → a ≡ awaited.Colon → (x ≡ 58 → ⊥) → signed (reached_by a n k) x ≡ None
colon_misfit {x = x} n k ea other = none_at n k x awaited.Colon ea (no_colon (extra n.waiting) k x other)

pub colon_read : {q : ℕ} {names : List Bytes} {text : Bytes} {k l : Bool} {a : Awaited} {n : PlainNodes} {x : ℕ} (Ls : PlainLevels) → l ≡ false →
    a ≡ awaited.Colon → x ≡ 58 →
    Holds q names text k a n Ls → Holds q names (text ++ x ∷ []) l awaited.Part n Ls
colon_read {names = names} {text = text} {k = k} Ls el ea ex h =
    text_at text ex (holds_from refl el refl refl refl (Holds-piece (sign colon) (no_sign k) (move_colon _ Ls)
    (λ ps g. stand_inside (sign colon) (HasAdded-none names) (λ us i. next_behind_name Ls i) g) (at_awaited awaited.Colon ea h)))

-- a member more
pub ampersand_led : {a : Awaited} {b : declared.Begun} {w : Bytes} {l : Bool} {n : PlainNodes} {Ls Ks : PlainLevels} →
    AreSound a b w l n Ls → b ≡ variant.Nothing → l ≡ false → a ≡ awaited.Joint → Ks ≡ Ls → ¬ IsMeetDeep Ls →
    AreLed (signed (reached_by a n (length Ls.outer)) 38) awaited.Part b w l n Ks
ampersand_led {n = n} {Ls = Ls} s eb el ea eK within =
    led_sign n (length Ls.outer) 38 38 ea refl (led_from refl eb refl el refl eK
    (led_ampersand n Ls (unfinished_at n awaited.Joint ea s.unfinished) s.waiting (ampersand_room Ls (fit_at Ls awaited.Joint ea s.levels) within)))

pub ampersand_read : {q : ℕ} {names : List Bytes} {text : Bytes} {k l : Bool} {a : Awaited} {n : PlainNodes} {Ks : PlainLevels} (Ls : PlainLevels) →
    AreFit a Ls → l ≡ false → a ≡ awaited.Joint → Ks ≡ Ls →
    Holds q names text k a n Ls → Holds q names (text ++ 38 ∷ []) l awaited.Part n Ks
ampersand_read {names = names} {k = k} Ls fit el ea eK h =
    let joint : TakesJoint Ls = fit_at Ls awaited.Joint ea fit in
    holds_from refl el refl refl eK (Holds-piece (sign ampersand) (no_sign k) (move_ampersand _ Ls)
    (λ ps g. stand_inside (sign ampersand) (HasAdded-none names) (λ us i. next_member Ls joint.inner.no_fields i) g) (at_awaited awaited.Joint ea h))

-- the dash
pub dash_led : {a : Awaited} {b : declared.Begun} {w : Bytes} {l : Bool} {n : PlainNodes} {Ls : PlainLevels} {x : ℕ} →
    AreSound a b w l n Ls → l ≡ false → a ≡ awaited.Joint → x ≡ 45 → AreLed (signed (reached_by a n (length Ls.outer)) x) a variant.Dash w l n Ls
dash_led {n = n} {Ls = Ls} {x = x} s el ea ex =
    led_sign n (length Ls.outer) x 45 ea ex (led_from ea refl refl el refl refl
    (led_dash n Ls (unfinished_at n awaited.Joint ea s.unfinished) s.waiting (fit_at Ls awaited.Joint ea s.levels)))

pub joint_misfit : {a : Awaited} {x : ℕ} (n : PlainNodes) (k : ℕ) → a ≡ awaited.Joint → (x ≡ 38 → ⊥) → (x ≡ 45 → ⊥) → (x ≡ 41 → ⊥) → (x ≡ 93 → ⊥) →
    signed (reached_by a n k) x ≡ None
joint_misfit {x = x} n k ea h38 h45 h41 h93 = none_at n k x awaited.Joint ea (no_joint (extra n.waiting) k x h38 h45 h41 h93)

-- a parenthesis that closes
pub close_led : {a : Awaited} {b : declared.Begun} {w : Bytes} {l : Bool} {n : PlainNodes} {Ls Ks : PlainLevels} →
    AreSound a b w l n Ls → b ≡ variant.Nothing → l ≡ false → a ≡ awaited.Joint → 0 < length Ls.outer → Ks ≡ with_closed Ls →
    AreLed (signed (reached_by a n (length Ls.outer)) 41) a b w l n Ks
close_led {n = n} {Ls = Ls} s eb el ea opens eK =
    led_sign n (length Ls.outer) 41 41 ea refl (led_from ea eb refl el refl eK
    (led_close n Ls opens (unfinished_at n awaited.Joint ea s.unfinished) s.waiting (fit_at Ls awaited.Joint ea s.levels)))

pub close_read : {q : ℕ} {names : List Bytes} {text : Bytes} {k l : Bool} {a : Awaited} {n : PlainNodes} {Ks : PlainLevels} (Ls : PlainLevels) →
    TakesJoint Ls → l ≡ false →
    a ≡ awaited.Joint → 0 < length Ls.outer → Ks ≡ with_closed Ls →
    Holds q names text k a n Ls → Holds q names (text ++ 41 ∷ []) l a n Ks
close_read {names = names} {k = k} Ls fit el ea opens eK h =
    holds_from refl el ea refl eK (Holds-piece (sign close_paren) (no_sign k) (move_close _ Ls opens fit.inner.some)
    (λ ps g. stand_inside (sign close_paren) (HasAdded-none names) (λ us i. last_group Ls opens i) g) (at_awaited awaited.Joint ea h))

-- the end of a type
pub end_led : {a : Awaited} {b : declared.Begun} {w : Bytes} {l : Bool} {n m : PlainNodes} {Ls Ks : PlainLevels} (T : PlainType) →
    AreSound a b w l n Ls → b ≡ variant.Nothing → l ≡ false → a ≡ awaited.Joint → length Ls.outer ≡ 0 → m ≡ with_node (in_sub T) n →
    AreLed (signed (reached_by a n (length Ls.outer)) 93) awaited.Node b w l m Ks
end_led {n = n} {Ls = Ls} {Ks = Ks} T s eb el ea closed em =
    led_sign n (length Ls.outer) 93 93 ea refl (led_from refl eb refl el em refl
    (led_end n (length Ls.outer) Ks T closed (unfinished_at n awaited.Joint ea s.unfinished) s.waiting))

no_outer : (xs : List PlainLevel) → length xs ≡ 0 → xs ≡ []
no_outer [] h = refl
no_outer (x ∷ xs) h = absurd (omega (arith, h))

pub end_read : {q j : ℕ} {names : List Bytes} {text : Bytes} {k l : Bool} {a : Awaited} {n m : PlainNodes} {Ks : PlainLevels} (Ls : PlainLevels)
    (T : PlainType) → j ≡ q → TakesJoint Ls → IsUnfinished a n → l ≡ false → a ≡ awaited.Joint → length Ls.outer ≡ 0 →
    T ≡ whole_type Ls.inner → m ≡ with_node (in_sub T) n → Holds q names text k a n Ls → Holds j names (text ++ 93 ∷ []) l awaited.Node m Ks
end_read {k = k} {n = n} Ls T eq fit unfinished el ea closed is em h =
    holds_from eq el refl (em ∙ ap (λ X. with_node (in_sub X) n) is) refl
    (Holds-piece (sign close_bracket) (no_sign k) (move_end n Ls _ (unfinished_at n awaited.Joint ea unfinished) closed fit)
    (λ ps g. stand_end n Ls (unfinished_at n awaited.Joint ea unfinished) (no_outer Ls.outer closed) g)
    (at_awaited awaited.Joint ea h))

-- what follows the dash
dash_joint : (a : Awaited) (n : PlainNodes) (w : Bytes) (l : Bool) → IsBegun variant.Dash a n w l → (a ≡ awaited.Joint) × (l ≡ false)
dash_joint awaited.Joint n w l h = (refl, h)
dash_joint awaited.Node n w l h = absurd h
dash_joint awaited.Bracket n w l h = absurd h
dash_joint (awaited.Count c) n w l h = absurd h
dash_joint awaited.Part n w l h = absurd h
dash_joint awaited.Colon n w l h = absurd h

pub dash_begun : {a : Awaited} {b : declared.Begun} {w : Bytes} {l : Bool} {n : PlainNodes} {Ls : PlainLevels} → AreSound a b w l n Ls →
    b ≡ variant.Dash → (a ≡ awaited.Joint) × (l ≡ false)
dash_begun {a = a} {w = w} {l = l} {n = n} s eb = dash_joint a n w l (subst (λ b. IsBegun b a n w l) eb s.begun)

arrow_at : {w : Bytes} (l : Bool) (n : PlainNodes) (Ls : PlainLevels) → n.whole ≡ None → AreWaiting n.waiting → TakesJoint Ls → ¬ IsArrowDeep Ls →
    AreLed (step (spot (reached_by awaited.Joint n (length Ls.outer)) (begun_by variant.Dash w l)) 62) awaited.Part variant.Nothing w false n
    (with_inner Ls (with_domain Ls.inner))
arrow_at l n Ls none waiting fit within =
    record { at = refl; sound = record { waiting = waiting; unfinished = none; levels = arrow_room Ls fit within; begun = tt } }

pub arrow_led : {a : Awaited} {b : declared.Begun} {w : Bytes} {l : Bool} {n : PlainNodes} {Ls Ks : PlainLevels} {x : ℕ} →
    AreSound a b w l n Ls → b ≡ variant.Dash → x ≡ 62 → Ks ≡ with_inner Ls (with_domain Ls.inner) → ¬ IsArrowDeep Ls →
    AreLed (step (spot (reached_by a n (length Ls.outer)) (begun_by b w l)) x) awaited.Part variant.Nothing w l n Ks
arrow_led {b = b} {w = w} {l = l} {n = n} {Ls = Ls} {Ks = Ks} {x = x} s eb ex eK within =
    let t = dash_begun s eb in
    let last = arrow_at {w = w} l n Ls (unfinished_at n awaited.Joint t.0 s.unfinished) s.waiting (fit_at Ls awaited.Joint t.0 s.levels) within in
    subst (λ a. AreLed (step (spot (reached_by a n (length Ls.outer)) (begun_by b w l)) x) awaited.Part variant.Nothing w l n Ks) (sym t.0)
    (subst (λ b. AreLed (step (spot (reached_by awaited.Joint n (length Ls.outer)) (begun_by b w l)) x) awaited.Part variant.Nothing w l n Ks)
    (sym eb)
    (subst (λ x. AreLed (step (spot (reached_by awaited.Joint n (length Ls.outer))
    (begun_by variant.Dash w l)) x) awaited.Part variant.Nothing w l n Ks) (sym ex)
    (led_from refl refl refl t.1 refl eK last)))

pub arrow_misfit : {b : declared.Begun} {x : ℕ} (a : Awaited) (w : Bytes) (l : Bool) (n : PlainNodes) (k : ℕ) → b ≡ variant.Dash → (x ≡ 62 → ⊥) →
    step (spot (reached_by a n k) (begun_by b w l)) x ≡ None
arrow_misfit {x = x} a w l n k eb other =
    subst (λ b. step (spot (reached_by a n k) (begun_by b w l)) x ≡ None) (sym eb) (chosen_not (x == 62) _ _ (ne_eqb x 62 other))

pub arrow_read : {q : ℕ} {names : List Bytes} {text : Bytes} {l : Bool} {a : Awaited} {n : PlainNodes} {Ks : PlainLevels} {x : ℕ} {k : Bool}
    (done : Bytes) (Ls : PlainLevels) → TakesJoint Ls → a ≡ awaited.Joint → l ≡ false → x ≡ 62 →
    Ks ≡ with_inner Ls (with_domain Ls.inner) → text ≡ done ++ 45 ∷ [] → Holds q names done k a n Ls → Holds q names
    (text ++ x ∷ []) l awaited.Part n Ks
arrow_read {q = q} {names = names} {text = text} {n = n} {k = k} done Ls fit ea el ex eK is h =
    text_at text ex (holds_from refl el refl refl eK
    (subst (λ t. Holds q names t false awaited.Part n (with_inner Ls (with_domain Ls.inner))) (sym (ap (λ t. t ++ 62 ∷ []) is
    ∙ append_assoc done (45 ∷ []) (62 ∷ [])))
    (Holds-piece (sign arrow) (no_sign k) (move_arrow _ Ls fit.inner.some) (λ ps g. stand_inside (sign arrow) (HasAdded-none names)
    (λ us i. next_codomain Ls i) g)
    (at_awaited awaited.Joint ea h))))

-- ---- a letter
pub letter_part_led : {a : Awaited} {b : declared.Begun} {w v : Bytes} {l : Bool} {n : PlainNodes} {Ls : PlainLevels} →
    AreWaiting n.waiting → IsUnfinished a n → AreFit a Ls → MayBegin a n v → b ≡ variant.Word → a ≡ awaited.Part → w ≡ v →
    AreLed (lettered (reached_by a n (length Ls.outer)) v) a b w l n Ls
letter_part_led {a = a} {b = b} {w = w} {v = v} {l = l} {n = n} {Ls = Ls} waiting unfinished fit may eb ea ew =
    led_from refl eb ew refl refl refl
    (subst (λ a. AreLed (lettered (reached_by a n (length Ls.outer)) v) a variant.Word v l n Ls) (sym ea)
    (led_part n Ls (unfinished_at n awaited.Part ea unfinished) waiting (fit_at Ls awaited.Part ea fit) (subst (λ a. MayBegin a n v) ea may)))

pub letter_known_led : {a : Awaited} {x : NodeWord} {a2 : Awaited} {b : declared.Begun} {w : Bytes} {l : Bool} {m : PlainNodes} {Ls : PlainLevels}
    (v : Bytes) (n : PlainNodes) (k : ℕ) →
    MayBegin a n v → (a ≡ awaited.Part → ⊥) → node_word v ≡ Some x → AreLed (Some (spot (after_node (extra n.waiting) x)
    (nothing true))) a2 b w l m Ls →
    AreLed (lettered (reached_by a n k) v) a2 b w l m Ls
letter_known_led {a = a} {x = x} {a2 = a2} {b = b} {w = w} {l = l} {m = m} {Ls = Ls} v n k may other known h =
    let t = may_node a n v may other in
    subst (λ a. AreLed (lettered (reached_by a n k) v) a2 b w l m Ls) (sym t.0)
    (subst (λ o. AreLed o a2 b w l m Ls) (sym (lettered-known n k v x t.1 known)) h)

pub letter_begins_led : {a : Awaited} {b : declared.Begun} {w v : Bytes} {l : Bool} {n : PlainNodes} {Ls : PlainLevels} →
    AreWaiting n.waiting → MayBegin a n v → (a ≡ awaited.Part → ⊥) → b ≡ variant.Word → w ≡ v → node_word v ≡ None → begins_node_word v ≡ true →
    AreLed (lettered (reached_by a n (length Ls.outer)) v) a b w l n Ls
letter_begins_led {a = a} {v = v} {l = l} {n = n} {Ls = Ls} waiting may other eb ew unknown begins =
    let t = may_node a n v may other in
    led_from refl eb ew refl refl refl
    (subst (λ a. AreLed (lettered (reached_by a n (length Ls.outer)) v) a variant.Word v l n Ls) (sym t.0)
    (led_beginning n Ls v t.1 waiting unknown begins))

pub letter_misfit : {a : Awaited} (v : Bytes) (n : PlainNodes) (k : ℕ) → MayBegin a n v → (a ≡ awaited.Part → ⊥) → node_word v ≡ None →
    begins_node_word v ≡ false →
    lettered (reached_by a n k) v ≡ None
letter_misfit {a = a} v n k may other unknown begins =
    let t = may_node a n v may other in subst (λ a. lettered (reached_by a n k) v ≡ None) (sym t.0) (lettered-none n k v t.1 unknown begins)

-- one more letter behind what was read
pub before_longer : {names : List Bytes} {text w v : Bytes} {r q : Reader} (x : ℕ) → v ≡ w ++ x ∷ [] → HoldsBefore names text w r →
    ((done : Bytes) → HoldsAt names done false r → HoldsAt names done false q) →
    HoldsBefore names (text ++ x ∷ []) v q
before_longer {w = w} {v = v} x e h turn =
    record {
      done = h.done;
      is = ap (λ t. t ++ x ∷ []) h.is
          ∙ (append_assoc h.done w (x ∷ []) ∙ ap (λ u. h.done ++ u) (sym e));
      holds = turn h.done h.holds;
    }

pub ampersand_fit : {a : Awaited} {b : declared.Begun} {w : Bytes} {l : Bool} {n : PlainNodes} {Ls : PlainLevels} → a ≡ awaited.Joint →
    AreSound a b w l n Ls → TakesJoint Ls
ampersand_fit {Ls = Ls} ea s = fit_at Ls awaited.Joint ea s.levels

pub paren_fit : {a : Awaited} {b : declared.Begun} {w : Bytes} {l : Bool} {n : PlainNodes} {Ls : PlainLevels} → a ≡ awaited.Part →
    AreSound a b w l n Ls → TakesPart Ls
paren_fit {Ls = Ls} ea s = fit_at Ls awaited.Part ea s.levels

-- whether a parenthesis is open
pub is_some_open : {t : Bool} (Ls : PlainLevels) → t ≡ not (length Ls.outer == 0) → t ≡ true → 0 < length Ls.outer
is_some_open Ls e h = grind (arith, nat_tests)

pub is_none_open : {t : Bool} (Ls : PlainLevels) → t ≡ not (length Ls.outer == 0) → t ≡ false → length Ls.outer ≡ 0
is_none_open Ls e h = grind (arith, nat_tests)

pub close_misfit : {a : Awaited} (n : PlainNodes) (k : ℕ) → a ≡ awaited.Joint → k ≡ 0 → signed (reached_by a n k) 41 ≡ None
close_misfit n k ea e = none_at n k 41 awaited.Joint ea (no_close n k e)

pub end_misfit : {a : Awaited} (n : PlainNodes) (k : ℕ) → a ≡ awaited.Joint → 0 < k → signed (reached_by a n k) 93 ≡ None
end_misfit n k ea e = none_at n k 93 awaited.Joint ea (no_end n k e)

pub read_at : {names : List Bytes} {r : Reader} {x y : ℕ} (text : Bytes) → x ≡ y → IsRead names (text ++ y ∷ []) r → IsRead names (text ++ x ∷ []) r
read_at {names = names} {r = r} text e h = subst (λ x. IsRead names (text ++ x ∷ []) r) (sym e) h

pub sign_misfit : {a : Awaited} (n : PlainNodes) (k x : ℕ) → (a ≡ awaited.Node) ⊎ ((c : Counted) × (a ≡ awaited.Count c)) →
    signed (reached_by a n k) x ≡ None
sign_misfit n k x (inl e) = none_at n k x awaited.Node e (no_sign_node (needed n) 0 x)
sign_misfit n k x (inr (c, e)) = none_at n k x (awaited.Count c) e (no_sign_count (extra n.waiting) 0 x c)
