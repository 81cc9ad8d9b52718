-- Forms of phrases, by how their step goes.
use Rattle.fy_phrase.specs.Tree.{Tree, unary, binary, cond, case, app, field, sel, merge, seq, assign, while_do, forever, new, cells, escape, put, read}

-- the forms that go on with a part of theirs, and a context for the others
abbrev pub Enters : Tree → Type 0
Enters (unary op p at) = Unit {0}
Enters (binary op p q at) = Unit {0}
Enters (cond b p q at) = Unit {0}
Enters (case e parts at) = Unit {0}
Enters (app p q at) = Unit {0}
Enters (sel p i at) = Unit {0}
Enters (seq p q at) = Unit {0}
Enters (assign p q at) = Unit {0}
Enters (new d D e body at) = Unit {0}
Enters (cells d e body at) = Unit {0}
Enters (put kind p at) = Unit {0}
Enters _ = ⊥

abbrev pub IsLoop : Tree → Type 0
IsLoop (while_do b c at) = Unit {0}
IsLoop (forever c at) = Unit {0}
IsLoop _ = ⊥

abbrev pub IsChoice : Tree → Type 0
IsChoice (merge p q at) = Unit {0}
IsChoice (field i p at) = Unit {0}
IsChoice _ = ⊥

abbrev pub IsEscape : Tree → Type 0
IsEscape (escape d body at) = Unit {0}
IsEscape _ = ⊥

-- the form that asks for a byte
abbrev pub Asks : Tree → Type 0
Asks (read p at) = Unit {0}
Asks _ = ⊥
