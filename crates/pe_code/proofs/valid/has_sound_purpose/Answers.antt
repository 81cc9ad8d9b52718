use Rattle.pe_code.proofs.valid.has_sound_purpose.Goals as goal

pub returns-in-Choose : goal.returns-in-Choose
returns-in-Choose c = rw c.in-Choose.is (c.all_lead.ensures)

pub returns-in-Repeat : goal.returns-in-Repeat
returns-in-Repeat c = rw c.in-Repeat.is (c.all_lead-in-Repeat.ensures)

pub returns-in-Store : goal.returns-in-Store
returns-in-Store c = rw c.in-Store.is (c.all_lead-in-Store.ensures)
