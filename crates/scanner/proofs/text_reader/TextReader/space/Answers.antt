-- `scanner::text_reader::TextReader::space` needs no answer. Its code is thin over `space_at`, so what `Thin.antt` shows is of it too.
-- Assumes nothing.
use mathlib.Core.Path.{refl}
use Rattle.text.specs.Line.{space}
use Rattle.scanner.proofs.ReaderAnswers.{the_byte}
use Rattle.scanner.proofs.Thin.{thin_meets}
use Rattle.scanner.proofs.bytes.space_at.Symbol as callee
use Rattle.scanner.proofs.bytes.space_at.Met as proved
use Rattle.scanner.specs.contracts.text_reader.TextReader.space.Key as here
use Rattle.scanner.proofs.text_reader.TextReader.space.Statement.{statement}
use Rattle.scanner.proofs.text_reader.TextReader.space.Code as code

pub space_thin : {M : Type 1} → statement M
space_thin 𝓤 𝓛 𝓜 𝓡 wired =
    thin_meets (the_byte space) 𝓛 𝓜 𝓡 𝓡.env here.name callee.name (𝓡.env callee.name)
    (code.unfolded 𝓤 𝓛.H 𝓜 𝓡 wired) refl (proved.met 𝓤 𝓛 𝓜 𝓡 (code.calls-scanner::bytes::space_at 𝓡.env wired))
