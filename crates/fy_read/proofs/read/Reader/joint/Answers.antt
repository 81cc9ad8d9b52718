use Rattle.std.proofs.lemmas.Result.{on_ok_weaker}
use Rattle.fy_read.proofs.ReaderAnswers.{read_at}
use Rattle.fy_read.proofs.PassLemmas.{on_err, passes_with, plain_passes}
use Rattle.fy_read.proofs.read.Reader.joint.Goals as goal

pub returns-then-byte-eq38-clause-read : goal.returns-then-byte-eq38-clause-read
returns-then-byte-eq38-clause-read c =
    on_ok_weaker c.ampersand.result (λ f loose names text h. read_at text c.if-byte-eq38.true (f loose names text h)) c.ampersand.ensures.read

pub returns-then-byte-eq41-clause-read : goal.returns-then-byte-eq41-clause-read
returns-then-byte-eq41-clause-read c =
    on_ok_weaker c.close.result (λ f loose names text h. read_at text c.if-byte-eq41.true (f loose names text h)) c.close.ensures.read

pub returns-then-byte-eq93-clause-read : goal.returns-then-byte-eq93-clause-read
returns-then-byte-eq93-clause-read c =
    on_ok_weaker c.end_type.result (λ f loose names text h. read_at text c.if-byte-eq93.true (f loose names text h)) c.end_type.ensures.read

pub returns-then-byte-eq38-clause-limits : goal.returns-then-byte-eq38-clause-limits
returns-then-byte-eq38-clause-limits c =
    on_err c.ampersand.result (λ e f loose names text h. passes_with e text c.if-byte-eq38.true (f loose names text h)) c.ampersand.ensures.limits

pub returns-then-byte-eq41-clause-limits : goal.returns-then-byte-eq41-clause-limits
returns-then-byte-eq41-clause-limits c = on_err c.close.result (λ e p loose names text h. plain_passes _ e p) c.close.ensures.plain

pub returns-then-byte-eq93-clause-limits : goal.returns-then-byte-eq93-clause-limits
returns-then-byte-eq93-clause-limits c = on_err c.end_type.result (λ e p loose names text h. plain_passes _ e p) c.end_type.ensures.plain
