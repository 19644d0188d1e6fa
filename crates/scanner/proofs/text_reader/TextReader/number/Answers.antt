-- `scanner::text_reader::TextReader::number` needs no answer. Its code is thin over `number_at`, so what `Thin.antt` shows is of it too.
-- Assumes nothing.
use mathlib.Core.Path.{refl}
use Rattle.scanner.proofs.ReaderAnswers.{a_number}
use Rattle.scanner.proofs.Thin.{thin_meets}
use Rattle.scanner.proofs.number.number_at.Symbol as callee
use Rattle.scanner.proofs.number.number_at.Met as proved
use Rattle.scanner.specs.contracts.text_reader.TextReader.number.Key as here
use Rattle.scanner.proofs.text_reader.TextReader.number.Statement.{statement}
use Rattle.scanner.proofs.text_reader.TextReader.number.Code as code

pub number_thin : {M : Type 1} → statement M
number_thin 𝓤 𝓛 𝓜 𝓡 wired =
    thin_meets a_number 𝓛 𝓜 𝓡 𝓡.env here.name callee.name (𝓡.env callee.name)
    (code.unfolded 𝓤 𝓛.H 𝓜 𝓡 wired) refl (proved.met 𝓤 𝓛 𝓜 𝓡 (code.calls-scanner::number::number_at 𝓡.env wired))
