-- A phrase by its form, and the conclusion of its rule by numbers.
use Rattle.std.proofs.Common.{ℕ, ◌≡◌, ◌&&◌, List, length, get_or, Box, Global, refl, sym, ap, ◌∙◌, subst, arith, Some, IfSome}
use Rattle.fy_base.specs.declared.data.Place.{Place}
use Rattle.fy_base.specs.declared.data.UnOp.{UnOp}
use Rattle.fy_base.specs.declared.data.BinOp.{BinOp}
use Rattle.fy_base.specs.declared.data.PutKind.{PutKind}
use Rattle.fy_types.specs.declared.types.Atom.TheVariants.{Int, Bool as Truth, Comm, Compl, IntAcc}
use Rattle.fy_types.specs.declared.types.Ty.{Ty}
use Rattle.fy_types.specs.declared.types.TyList.{TyList}
use Rattle.fy_types.specs.Types.{PlainType, atom, field as field_type}
use Rattle.fy_types.specs.Reading.{plain_type, plain_types}
use Rattle.fy_phrase.specs.declared.phrase.DataTy.{DataTy}
use Rattle.fy_phrase.specs.declared.phrase.Parts.{Parts}
use Rattle.fy_phrase.specs.declared.phrase.Phrase as form
use Rattle.fy_phrase.specs.declared.phrase.Phrase.{Phrase, fold-roll-Phrase}
use Rattle.fy_phrase.specs.declared.phrase.Phrase.TheOpen.{Phrase-F}
use Rattle.fy_phrase.specs.declared.phrase.Phrase.TheVariants.{rolls-Var, rolls-Unary, rolls-Binary, rolls-Cond, rolls-Case, rolls-Lam, rolls-App, rolls-Field, rolls-Sel, rolls-Merge, rolls-LetIn, rolls-Rec, rolls-Seq, rolls-Assign, rolls-WhileDo, rolls-Forever, rolls-New, rolls-Cells, rolls-Escape, rolls-Accept, rolls-Put, rolls-Read}
use Rattle.fy_phrase.specs.Tree.{Tree, Trees, var, unary, binary, cond, case, lam, app, field, sel, merge, let_in, rec, seq, assign, while_do, forever, new, cells, escape, accept, put, read}
use Rattle.fy_phrase.specs.Reads.{reads, reads_parts, reads_form, reads_list}
use Rattle.fy_derive.specs.declared.table.TypeTable.{TypeTable}
use Rattle.fy_derive.specs.Atoms.{data_atom, acceptor_atom, operand_atom, unary_atom, binary_atom, put_atom}
use Rattle.fy_derive.specs.Shown.{shown, all_shown}
use Rattle.fy_derive.specs.Rules.{premises, conclusion, provided, is_atom, same_type, fits_operator, chosen, applied, selected, command_behind, fits_assignment, picked_type}
use Rattle.fy_derive.proofs.RuleLemmas.{type_at-shown}

pub Var-tree : (p : Phrase) (k : ℕ) (at : Place) → p ≡ form.Var k at → reads p ≡ var k at
Var-tree p k at e = rw e (ap reads (sym (rolls-Var k at)) ∙ fold-roll-Phrase Tree Trees reads_form reads_list (Phrase-F.Var k at))

pub Unary-tree : (p : Phrase) (op : UnOp) (a : Box Phrase Global) (at : Place) → p ≡ form.Unary op a at → reads p ≡ unary op (reads a.value) at
Unary-tree p op a at e = rw e (ap reads (sym (rolls-Unary op a at)) ∙ fold-roll-Phrase Tree Trees reads_form reads_list (Phrase-F.Unary op a at))

pub Binary-tree : (p : Phrase) (op : BinOp) (a b : Box Phrase Global) (at : Place) → p ≡ form.Binary op a b at → reads p ≡ binary op (reads a.value) (reads b.value) at
Binary-tree p op a b at e = rw e (ap reads (sym (rolls-Binary op a b at)) ∙ fold-roll-Phrase Tree Trees reads_form reads_list (Phrase-F.Binary op a b at))

pub Cond-tree : (p : Phrase) (a b d : Box Phrase Global) (at : Place) → p ≡ form.Cond a b d at → reads p ≡ cond (reads a.value) (reads b.value) (reads d.value) at
Cond-tree p a b d at e = rw e (ap reads (sym (rolls-Cond a b d at)) ∙ fold-roll-Phrase Tree Trees reads_form reads_list (Phrase-F.Cond a b d at))

pub Case-tree : (p : Phrase) (a : Box Phrase Global) (parts : Parts) (at : Place) → p ≡ form.Case a parts at → reads p ≡ case (reads a.value) (reads_parts parts) at
Case-tree p a parts at e = rw e (ap reads (sym (rolls-Case a parts at)) ∙ fold-roll-Phrase Tree Trees reads_form reads_list (Phrase-F.Case a parts at))

pub Lam-tree : (p : Phrase) (n : ℕ) (As : TyList) (a : Box Phrase Global) (at : Place) → p ≡ form.Lam n As a at → reads p ≡ lam n (plain_types As) (reads a.value) at
Lam-tree p n As a at e = rw e (ap reads (sym (rolls-Lam n As a at)) ∙ fold-roll-Phrase Tree Trees reads_form reads_list (Phrase-F.Lam n As a at))

pub App-tree : (p : Phrase) (a b : Box Phrase Global) (at : Place) → p ≡ form.App a b at → reads p ≡ app (reads a.value) (reads b.value) at
App-tree p a b at e = rw e (ap reads (sym (rolls-App a b at)) ∙ fold-roll-Phrase Tree Trees reads_form reads_list (Phrase-F.App a b at))

pub Field-tree : (p : Phrase) (i : ℕ) (a : Box Phrase Global) (at : Place) → p ≡ form.Field i a at → reads p ≡ field i (reads a.value) at
Field-tree p i a at e = rw e (ap reads (sym (rolls-Field i a at)) ∙ fold-roll-Phrase Tree Trees reads_form reads_list (Phrase-F.Field i a at))

pub Sel-tree : (p : Phrase) (a : Box Phrase Global) (i : ℕ) (at : Place) → p ≡ form.Sel a i at → reads p ≡ sel (reads a.value) i at
Sel-tree p a i at e = rw e (ap reads (sym (rolls-Sel a i at)) ∙ fold-roll-Phrase Tree Trees reads_form reads_list (Phrase-F.Sel a i at))

pub Merge-tree : (p : Phrase) (a b : Box Phrase Global) (at : Place) → p ≡ form.Merge a b at → reads p ≡ merge (reads a.value) (reads b.value) at
Merge-tree p a b at e = rw e (ap reads (sym (rolls-Merge a b at)) ∙ fold-roll-Phrase Tree Trees reads_form reads_list (Phrase-F.Merge a b at))

pub LetIn-tree : (p : Phrase) (n : ℕ) (a b : Box Phrase Global) (at : Place) → p ≡ form.LetIn n a b at → reads p ≡ let_in n (reads a.value) (reads b.value) at
LetIn-tree p n a b at e = rw e (ap reads (sym (rolls-LetIn n a b at)) ∙ fold-roll-Phrase Tree Trees reads_form reads_list (Phrase-F.LetIn n a b at))

pub Rec-tree : (p : Phrase) (n : ℕ) (T : Ty) (a : Box Phrase Global) (at : Place) → p ≡ form.Rec n T a at → reads p ≡ rec n (plain_type T) (reads a.value) at
Rec-tree p n T a at e = rw e (ap reads (sym (rolls-Rec n T a at)) ∙ fold-roll-Phrase Tree Trees reads_form reads_list (Phrase-F.Rec n T a at))

pub Seq-tree : (p : Phrase) (a b : Box Phrase Global) (at : Place) → p ≡ form.Seq a b at → reads p ≡ seq (reads a.value) (reads b.value) at
Seq-tree p a b at e = rw e (ap reads (sym (rolls-Seq a b at)) ∙ fold-roll-Phrase Tree Trees reads_form reads_list (Phrase-F.Seq a b at))

pub Assign-tree : (p : Phrase) (a b : Box Phrase Global) (at : Place) → p ≡ form.Assign a b at → reads p ≡ assign (reads a.value) (reads b.value) at
Assign-tree p a b at e = rw e (ap reads (sym (rolls-Assign a b at)) ∙ fold-roll-Phrase Tree Trees reads_form reads_list (Phrase-F.Assign a b at))

pub WhileDo-tree : (p : Phrase) (a b : Box Phrase Global) (at : Place) → p ≡ form.WhileDo a b at → reads p ≡ while_do (reads a.value) (reads b.value) at
WhileDo-tree p a b at e = rw e (ap reads (sym (rolls-WhileDo a b at)) ∙ fold-roll-Phrase Tree Trees reads_form reads_list (Phrase-F.WhileDo a b at))

pub Forever-tree : (p : Phrase) (a : Box Phrase Global) (at : Place) → p ≡ form.Forever a at → reads p ≡ forever (reads a.value) at
Forever-tree p a at e = rw e (ap reads (sym (rolls-Forever a at)) ∙ fold-roll-Phrase Tree Trees reads_form reads_list (Phrase-F.Forever a at))

pub New-tree : (p : Phrase) (n : ℕ) (D : DataTy) (a b : Box Phrase Global) (at : Place) → p ≡ form.New n D a b at → reads p ≡ new n D (reads a.value) (reads b.value) at
New-tree p n D a b at e = rw e (ap reads (sym (rolls-New n D a b at)) ∙ fold-roll-Phrase Tree Trees reads_form reads_list (Phrase-F.New n D a b at))

pub Cells-tree : (p : Phrase) (n : ℕ) (a b : Box Phrase Global) (at : Place) → p ≡ form.Cells n a b at → reads p ≡ cells n (reads a.value) (reads b.value) at
Cells-tree p n a b at e = rw e (ap reads (sym (rolls-Cells n a b at)) ∙ fold-roll-Phrase Tree Trees reads_form reads_list (Phrase-F.Cells n a b at))

pub Escape-tree : (p : Phrase) (n : ℕ) (a : Box Phrase Global) (at : Place) → p ≡ form.Escape n a at → reads p ≡ escape n (reads a.value) at
Escape-tree p n a at e = rw e (ap reads (sym (rolls-Escape n a at)) ∙ fold-roll-Phrase Tree Trees reads_form reads_list (Phrase-F.Escape n a at))

pub Accept-tree : (p : Phrase) (n : ℕ) (D : DataTy) (a : Box Phrase Global) (at : Place) → p ≡ form.Accept n D a at → reads p ≡ accept n D (reads a.value) at
Accept-tree p n D a at e = rw e (ap reads (sym (rolls-Accept n D a at)) ∙ fold-roll-Phrase Tree Trees reads_form reads_list (Phrase-F.Accept n D a at))

pub Put-tree : (p : Phrase) (kind : PutKind) (a : Box Phrase Global) (at : Place) → p ≡ form.Put kind a at → reads p ≡ put kind (reads a.value) at
Put-tree p kind a at e = rw e (ap reads (sym (rolls-Put kind a at)) ∙ fold-roll-Phrase Tree Trees reads_form reads_list (Phrase-F.Put kind a at))

pub Read-tree : (p : Phrase) (a : Box Phrase Global) (at : Place) → p ≡ form.Read a at → reads p ≡ read (reads a.value) at
Read-tree p a at e = rw e (ap reads (sym (rolls-Read a at)) ∙ fold-roll-Phrase Tree Trees reads_form reads_list (Phrase-F.Read a at))

-- the conclusion of each form's rule

pub Unary-concludes : (t : TypeTable) (G : List PlainType) (p : Phrase) (op : UnOp) (a : Box Phrase Global) (at : Place) (ks : List ℕ) → p ≡ form.Unary op a at →
    IfSome (premises (reads p)) (λ Ps. length ks ≡ length Ps) →
    provided (is_atom (operand_atom op) (shown t (get_or ks 0 0))) (atom (unary_atom op)) ≡ conclusion G (reads p) (all_shown t ks)
Unary-concludes t G p op a at ks e h =
    let s = Unary-tree p op a at e in
    let l : length ks ≡ 1 = subst (λ T. IfSome (premises T) (λ Ps. length ks ≡ length Ps)) s h in
    rw (s, type_at-shown t ks 0 (omega arith)) refl

pub Binary-concludes : (t : TypeTable) (G : List PlainType) (p : Phrase) (op : BinOp) (a b : Box Phrase Global) (at : Place) (ks : List ℕ) → p ≡ form.Binary op a b at →
    IfSome (premises (reads p)) (λ Ps. length ks ≡ length Ps) →
    provided (fits_operator op (shown t (get_or ks 0 0)) (shown t (get_or ks 1 0))) (atom (binary_atom op)) ≡ conclusion G (reads p) (all_shown t ks)
Binary-concludes t G p op a b at ks e h =
    let s = Binary-tree p op a b at e in
    let l : length ks ≡ 2 = subst (λ T. IfSome (premises T) (λ Ps. length ks ≡ length Ps)) s h in
    rw (s, type_at-shown t ks 0 (omega arith), type_at-shown t ks 1 (omega arith)) refl

pub Cond-concludes : (t : TypeTable) (G : List PlainType) (p : Phrase) (a b d : Box Phrase Global) (at : Place) (ks : List ℕ) → p ≡ form.Cond a b d at →
    IfSome (premises (reads p)) (λ Ps. length ks ≡ length Ps) →
    chosen (shown t (get_or ks 0 0)) (shown t (get_or ks 1 0)) (shown t (get_or ks 2 0)) ≡ conclusion G (reads p) (all_shown t ks)
Cond-concludes t G p a b d at ks e h =
    let s = Cond-tree p a b d at e in
    let l : length ks ≡ 3 = subst (λ T. IfSome (premises T) (λ Ps. length ks ≡ length Ps)) s h in
    rw (s, type_at-shown t ks 0 (omega arith), type_at-shown t ks 1 (omega arith), type_at-shown t ks 2 (omega arith)) refl

pub App-concludes : (t : TypeTable) (G : List PlainType) (p : Phrase) (a b : Box Phrase Global) (at : Place) (ks : List ℕ) → p ≡ form.App a b at →
    IfSome (premises (reads p)) (λ Ps. length ks ≡ length Ps) →
    applied (shown t (get_or ks 0 0)) (shown t (get_or ks 1 0)) ≡ conclusion G (reads p) (all_shown t ks)
App-concludes t G p a b at ks e h =
    let s = App-tree p a b at e in
    let l : length ks ≡ 2 = subst (λ T. IfSome (premises T) (λ Ps. length ks ≡ length Ps)) s h in
    rw (s, type_at-shown t ks 0 (omega arith), type_at-shown t ks 1 (omega arith)) refl

pub Field-concludes : (t : TypeTable) (G : List PlainType) (p : Phrase) (i : ℕ) (a : Box Phrase Global) (at : Place) (ks : List ℕ) → p ≡ form.Field i a at →
    IfSome (premises (reads p)) (λ Ps. length ks ≡ length Ps) →
    Some (field_type i (shown t (get_or ks 0 0))) ≡ conclusion G (reads p) (all_shown t ks)
Field-concludes t G p i a at ks e h =
    let s = Field-tree p i a at e in
    let l : length ks ≡ 1 = subst (λ T. IfSome (premises T) (λ Ps. length ks ≡ length Ps)) s h in
    rw (s, type_at-shown t ks 0 (omega arith)) refl

pub Sel-concludes : (t : TypeTable) (G : List PlainType) (p : Phrase) (a : Box Phrase Global) (i : ℕ) (at : Place) (ks : List ℕ) → p ≡ form.Sel a i at →
    IfSome (premises (reads p)) (λ Ps. length ks ≡ length Ps) →
    selected (shown t (get_or ks 0 0)) i ≡ conclusion G (reads p) (all_shown t ks)
Sel-concludes t G p a i at ks e h =
    let s = Sel-tree p a i at e in
    let l : length ks ≡ 1 = subst (λ T. IfSome (premises T) (λ Ps. length ks ≡ length Ps)) s h in
    rw (s, type_at-shown t ks 0 (omega arith)) refl

pub LetIn-concludes : (t : TypeTable) (G : List PlainType) (p : Phrase) (n : ℕ) (a b : Box Phrase Global) (at : Place) (ks : List ℕ) → p ≡ form.LetIn n a b at →
    IfSome (premises (reads p)) (λ Ps. length ks ≡ length Ps) →
    Some (shown t (get_or ks 1 0)) ≡ conclusion G (reads p) (all_shown t ks)
LetIn-concludes t G p n a b at ks e h =
    let s = LetIn-tree p n a b at e in
    let l : length ks ≡ 2 = subst (λ T. IfSome (premises T) (λ Ps. length ks ≡ length Ps)) s h in
    rw (s, type_at-shown t ks 1 (omega arith)) refl

pub Rec-concludes : (t : TypeTable) (G : List PlainType) (p : Phrase) (n : ℕ) (T : Ty) (a : Box Phrase Global) (at : Place) (ks : List ℕ) → p ≡ form.Rec n T a at →
    IfSome (premises (reads p)) (λ Ps. length ks ≡ length Ps) →
    provided (same_type (shown t (get_or ks 0 0)) (plain_type T)) (plain_type T) ≡ conclusion G (reads p) (all_shown t ks)
Rec-concludes t G p n T a at ks e h =
    let s = Rec-tree p n T a at e in
    let l : length ks ≡ 1 = subst (λ T. IfSome (premises T) (λ Ps. length ks ≡ length Ps)) s h in
    rw (s, type_at-shown t ks 0 (omega arith)) refl

pub Seq-concludes : (t : TypeTable) (G : List PlainType) (p : Phrase) (a b : Box Phrase Global) (at : Place) (ks : List ℕ) → p ≡ form.Seq a b at →
    IfSome (premises (reads p)) (λ Ps. length ks ≡ length Ps) →
    command_behind Comm (shown t (get_or ks 0 0)) (shown t (get_or ks 1 0)) ≡ conclusion G (reads p) (all_shown t ks)
Seq-concludes t G p a b at ks e h =
    let s = Seq-tree p a b at e in
    let l : length ks ≡ 2 = subst (λ T. IfSome (premises T) (λ Ps. length ks ≡ length Ps)) s h in
    rw (s, type_at-shown t ks 0 (omega arith), type_at-shown t ks 1 (omega arith)) refl

pub Assign-concludes : (t : TypeTable) (G : List PlainType) (p : Phrase) (a b : Box Phrase Global) (at : Place) (ks : List ℕ) → p ≡ form.Assign a b at →
    IfSome (premises (reads p)) (λ Ps. length ks ≡ length Ps) →
    provided (fits_assignment (shown t (get_or ks 0 0)) (shown t (get_or ks 1 0))) (atom Comm) ≡ conclusion G (reads p) (all_shown t ks)
Assign-concludes t G p a b at ks e h =
    let s = Assign-tree p a b at e in
    let l : length ks ≡ 2 = subst (λ T. IfSome (premises T) (λ Ps. length ks ≡ length Ps)) s h in
    rw (s, type_at-shown t ks 0 (omega arith), type_at-shown t ks 1 (omega arith)) refl

pub WhileDo-concludes : (t : TypeTable) (G : List PlainType) (p : Phrase) (a b : Box Phrase Global) (at : Place) (ks : List ℕ) → p ≡ form.WhileDo a b at →
    IfSome (premises (reads p)) (λ Ps. length ks ≡ length Ps) →
    provided (is_atom Truth (shown t (get_or ks 0 0)) && is_atom Comm (shown t (get_or ks 1 0))) (atom Comm) ≡ conclusion G (reads p) (all_shown t ks)
WhileDo-concludes t G p a b at ks e h =
    let s = WhileDo-tree p a b at e in
    let l : length ks ≡ 2 = subst (λ T. IfSome (premises T) (λ Ps. length ks ≡ length Ps)) s h in
    rw (s, type_at-shown t ks 0 (omega arith), type_at-shown t ks 1 (omega arith)) refl

pub Forever-concludes : (t : TypeTable) (G : List PlainType) (p : Phrase) (a : Box Phrase Global) (at : Place) (ks : List ℕ) → p ≡ form.Forever a at →
    IfSome (premises (reads p)) (λ Ps. length ks ≡ length Ps) →
    provided (is_atom Comm (shown t (get_or ks 0 0))) (atom Compl) ≡ conclusion G (reads p) (all_shown t ks)
Forever-concludes t G p a at ks e h =
    let s = Forever-tree p a at e in
    let l : length ks ≡ 1 = subst (λ T. IfSome (premises T) (λ Ps. length ks ≡ length Ps)) s h in
    rw (s, type_at-shown t ks 0 (omega arith)) refl

pub New-concludes : (t : TypeTable) (G : List PlainType) (p : Phrase) (n : ℕ) (D : DataTy) (a b : Box Phrase Global) (at : Place) (ks : List ℕ) → p ≡ form.New n D a b at →
    IfSome (premises (reads p)) (λ Ps. length ks ≡ length Ps) →
    command_behind (data_atom D) (shown t (get_or ks 0 0)) (shown t (get_or ks 1 0)) ≡ conclusion G (reads p) (all_shown t ks)
New-concludes t G p n D a b at ks e h =
    let s = New-tree p n D a b at e in
    let l : length ks ≡ 2 = subst (λ T. IfSome (premises T) (λ Ps. length ks ≡ length Ps)) s h in
    rw (s, type_at-shown t ks 0 (omega arith), type_at-shown t ks 1 (omega arith)) refl

pub Cells-concludes : (t : TypeTable) (G : List PlainType) (p : Phrase) (n : ℕ) (a b : Box Phrase Global) (at : Place) (ks : List ℕ) → p ≡ form.Cells n a b at →
    IfSome (premises (reads p)) (λ Ps. length ks ≡ length Ps) →
    command_behind Int (shown t (get_or ks 0 0)) (shown t (get_or ks 1 0)) ≡ conclusion G (reads p) (all_shown t ks)
Cells-concludes t G p n a b at ks e h =
    let s = Cells-tree p n a b at e in
    let l : length ks ≡ 2 = subst (λ T. IfSome (premises T) (λ Ps. length ks ≡ length Ps)) s h in
    rw (s, type_at-shown t ks 0 (omega arith), type_at-shown t ks 1 (omega arith)) refl

pub Escape-concludes : (t : TypeTable) (G : List PlainType) (p : Phrase) (n : ℕ) (a : Box Phrase Global) (at : Place) (ks : List ℕ) → p ≡ form.Escape n a at →
    IfSome (premises (reads p)) (λ Ps. length ks ≡ length Ps) →
    provided (is_atom Comm (shown t (get_or ks 0 0))) (atom Comm) ≡ conclusion G (reads p) (all_shown t ks)
Escape-concludes t G p n a at ks e h =
    let s = Escape-tree p n a at e in
    let l : length ks ≡ 1 = subst (λ T. IfSome (premises T) (λ Ps. length ks ≡ length Ps)) s h in
    rw (s, type_at-shown t ks 0 (omega arith)) refl

pub Accept-concludes : (t : TypeTable) (G : List PlainType) (p : Phrase) (n : ℕ) (D : DataTy) (a : Box Phrase Global) (at : Place) (ks : List ℕ) → p ≡ form.Accept n D a at →
    IfSome (premises (reads p)) (λ Ps. length ks ≡ length Ps) →
    provided (is_atom Comm (shown t (get_or ks 0 0))) (atom (acceptor_atom D)) ≡ conclusion G (reads p) (all_shown t ks)
Accept-concludes t G p n D a at ks e h =
    let s = Accept-tree p n D a at e in
    let l : length ks ≡ 1 = subst (λ T. IfSome (premises T) (λ Ps. length ks ≡ length Ps)) s h in
    rw (s, type_at-shown t ks 0 (omega arith)) refl

pub Put-concludes : (t : TypeTable) (G : List PlainType) (p : Phrase) (kind : PutKind) (a : Box Phrase Global) (at : Place) (ks : List ℕ) → p ≡ form.Put kind a at →
    IfSome (premises (reads p)) (λ Ps. length ks ≡ length Ps) →
    provided (is_atom (put_atom kind) (shown t (get_or ks 0 0))) (atom Comm) ≡ conclusion G (reads p) (all_shown t ks)
Put-concludes t G p kind a at ks e h =
    let s = Put-tree p kind a at e in
    let l : length ks ≡ 1 = subst (λ T. IfSome (premises T) (λ Ps. length ks ≡ length Ps)) s h in
    rw (s, type_at-shown t ks 0 (omega arith)) refl

pub Read-concludes : (t : TypeTable) (G : List PlainType) (p : Phrase) (a : Box Phrase Global) (at : Place) (ks : List ℕ) → p ≡ form.Read a at →
    IfSome (premises (reads p)) (λ Ps. length ks ≡ length Ps) →
    provided (is_atom IntAcc (shown t (get_or ks 0 0))) (atom Comm) ≡ conclusion G (reads p) (all_shown t ks)
Read-concludes t G p a at ks e h =
    let s = Read-tree p a at e in
    let l : length ks ≡ 1 = subst (λ T. IfSome (premises T) (λ Ps. length ks ≡ length Ps)) s h in
    rw (s, type_at-shown t ks 0 (omega arith)) refl

pub Case-concludes : (t : TypeTable) (G : List PlainType) (p : Phrase) (a : Box Phrase Global) (parts : Parts) (at : Place) (ks : List ℕ) → p ≡ form.Case a parts at →
    picked_type (all_shown t ks) ≡ conclusion G (reads p) (all_shown t ks)
Case-concludes t G p a parts at ks e = rw (Case-tree p a parts at e) refl
