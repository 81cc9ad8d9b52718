-- The names that binders are shown with: that of the source, or the first like it that captures no use.
use Rattle.std.specs.Prelude.{ℕ, zero, suc, ◌+◌, Bool, false, ◌||◌, ◌==◌, if◌then◌else◌, Option, Some, None, List, [], ◌∷◌, ◌++◌, codes, decimal}
use Rattle.std.specs.Str.{bytes_eq}
use Rattle.fy_base.specs.Outside.{Bytes}
use Rattle.fy_base.specs.declared.data.Place.{Place}
use Rattle.fy_types.specs.Types.{PlainType, PlainTypes, field as field_type, meet, no_types, and_type}
use Rattle.fy_types.specs.Print.{name_text}
use Rattle.fy_phrase.specs.Tree.{Tree, Trees, var, lit, unary, binary, cond, case, lam, app, field, sel, merge, let_in, rec, skip, seq, assign, while_do, forever, new, cells, escape, accept, put, read, mark, no_trees, and_tree}
use Rattle.fy_show.specs.declared.binders.BinderForm.{BinderForm}
use Rattle.fy_show.specs.declared.binders.BinderForm.TheVariants as form
use Rattle.fy_show.specs.Binders.{source_name}
use Rattle.fy_short.specs.DataTexts.{put_word}
use Rattle.fy_show.specs.Entries.{Fields, Entry, unnamed, one, all, Scope, Known, entry_at, field_name, is_field_name, has_name}

-- x, and then x_1, x_2, ..
abbrev pub like : Bytes → ℕ → Bytes
like x n = if n == 0 then x else x ++ codes "_" ++ decimal n

-- the first of so many names from the i-th on that isn't used
abbrev pub first_free : (Bytes → Bool) → Bytes → ℕ → ℕ → Bytes
first_free used x zero i = like x i
first_free used x (suc n) i = if used (like x i) then first_free used x n (i + 1) else like x i

-- more names than any phrase uses
unfoldable pub most_names : ℕ
most_names = 4294967295

abbrev pub fresh : (Bytes → Bool) → Bytes → Bytes
fresh used x = first_free used x most_names 0

-- the fields that a record with a name is shown with
abbrev pub fields_shown : Option Entry → Option Fields
fields_shown None = None
fields_shown (Some unnamed) = None
fields_shown (Some (one x)) = None
fields_shown (Some (all fs)) = Some fs

-- the same of a variable in scope, or of a closed phrase that is folded
abbrev pub record_at : Known → Scope → Tree → Option Fields
record_at k s (var n at) = fields_shown (Some (entry_at s n))
record_at k s (rec d T b at) = fields_shown (k.folded (rec d T b at))
record_at k s p = None

-- a folded phrase uses its own name alone
abbrev pub used_as : Bytes → Option Entry → Bool → Bool
used_as t None whole = whole
used_as t (Some e) whole = has_name t e

abbrev pub is_some_name : Bytes → Option Bytes → Bool
is_some_name t None = false
is_some_name t (Some x) = bytes_eq t x

-- a field of a record with a name is used by the field's name
abbrev pub field_used_as : Bytes → ℕ → Option Fields → Bool → Bool
field_used_as t i None whole = whole
field_used_as t i (Some fs) whole = is_some_name t (field_name fs i)

abbrev mutual
  -- whether the text of the phrase uses the name, which no binder in it has
  pub uses : Known → Bytes → Scope → Tree → Bool
  uses k t s (var n at) = has_name t (entry_at s n)
  uses k t s (lit v at) = false
  uses k t s (unary op p at) = uses k t s p
  uses k t s (binary op p q at) = uses k t s p || uses k t s q
  uses k t s (cond b p q at) = uses k t s b || (uses k t s p || uses k t s q)
  uses k t s (case e parts at) = uses k t s e || any_uses k t s parts
  uses k t s (lam d As b at) = used_as t (k.folded (lam d As b at)) (uses k t (unnamed ∷ s) b)
  uses k t s (app p q at) = uses k t s p || uses k t s q
  uses k t s (field i p at) = uses k t s p
  uses k t s (sel p i at) = field_used_as t i (record_at k s p) (uses k t s p)
  uses k t s (merge p q at) = used_as t (k.folded (merge p q at)) (uses k t s p || uses k t s q)
  uses k t s (let_in d p b at) = uses k t s p || uses k t (unnamed ∷ s) b
  uses k t s (rec d T b at) = used_as t (k.folded (rec d T b at)) (uses k t (unnamed ∷ s) b)
  uses k t s (skip at) = false
  uses k t s (seq p q at) = uses k t s p || uses k t s q
  uses k t s (assign p q at) = uses k t s p || uses k t s q
  uses k t s (while_do b c at) = uses k t s b || uses k t s c
  uses k t s (forever c at) = uses k t s c
  uses k t s (new d D e b at) = uses k t s e || uses k t (unnamed ∷ s) b
  uses k t s (cells d e b at) = bytes_eq t (codes "newintseq") || (uses k t s e || uses k t (unnamed ∷ s) b)
  uses k t s (escape d b at) = uses k t (unnamed ∷ s) b
  uses k t s (accept d D b at) = uses k t (unnamed ∷ s) b
  uses k t s (put kind p at) = bytes_eq t (put_word kind) || uses k t s p
  uses k t s (read p at) = bytes_eq t (codes "read") || uses k t s p
  uses k t s (mark m at) = bytes_eq t (k.marks m)

  pub any_uses : Known → Bytes → Scope → Trees → Bool
  any_uses k t s no_trees = false
  any_uses k t s (and_tree p more) = uses k t s p || any_uses k t s more

-- the field that a type is, if it is one
abbrev pub field_alone : PlainType → List (ℕ × PlainType)
field_alone (field_type i A) = (i, A) ∷ []
field_alone A = []

-- the fields of a declared type, in order
abbrev pub fields_of_all : PlainTypes → List (ℕ × PlainType)
fields_of_all no_types = []
fields_of_all (and_type A As) = field_alone A ++ fields_of_all As

abbrev pub fields_of : PlainType → List (ℕ × PlainType)
fields_of (meet As) = fields_of_all As
fields_of A = field_alone A

-- whether a name is used in the phrases under the binder, or stands for a field already
abbrev pub is_taken : Known → Scope → List Tree → Fields → Bytes → Bool
is_taken k s [] done t = is_field_name t done
is_taken k s (p ∷ ps) done t = uses k t (unnamed ∷ s) p || is_taken k s ps done t

-- a binder's name, from that of the source
abbrev pub one_fresh : Known → Scope → BinderForm → Place → ℕ → List Tree → Entry
one_fresh k s form at d ps = one (fresh (is_taken k s ps []) (source_name k.names k.binders form at d))

-- the names of fields, each behind those that have theirs
abbrev pub fields_behind : Known → Scope → List Tree → Fields → List (ℕ × PlainType) → Fields
fields_behind k s ps done [] = done
fields_behind k s ps done (f ∷ fs) = fields_behind k s ps (done ++ (f.0, fresh (is_taken k s ps done) (name_text k.names f.0)) ∷ []) fs

abbrev pub all_fresh : Known → Scope → PlainType → List Tree → Entry
all_fresh k s T ps = all (fields_behind k s ps [] (fields_of T))

-- what a form's own binder is shown as: a row for each form that binds
abbrev pub bound : Known → Scope → Tree → Entry
bound k s (lam d As b at) = one_fresh k s form.Lam at d (b ∷ [])
bound k s (let_in d (rec c T p here) b at) = all_fresh k s T (p ∷ b ∷ [])
bound k s (let_in d p b at) = one_fresh k s form.Let at d (b ∷ [])
bound k s (rec d T b at) = all_fresh k s T (b ∷ [])
bound k s (new d D e b at) = one_fresh k s form.New at d (b ∷ [])
bound k s (cells d e b at) = one_fresh k s form.Cells at d (b ∷ [])
bound k s (escape d b at) = one_fresh k s form.Escape at d (b ∷ [])
bound k s (accept d D b at) = one_fresh k s form.Accept at d (b ∷ [])
bound k s p = unnamed
