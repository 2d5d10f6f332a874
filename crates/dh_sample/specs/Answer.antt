-- What is written for a request over the sample.
use Rattle.std.specs.Prelude.{◌≡◌, ℕ, Bool, false, List, Option, Some, None, Result, Ok, Err}
use Rattle.dh_world.specs.World.{World}
use Rattle.dh_http.specs.Answers as engine
use Rattle.dh_http.specs.declared.fault.Done.{Done}
use Rattle.dh_http.specs.declared.fault.EngineFault.{EngineFault}
use Rattle.dh_sample.specs.SampleWorld.{sample_world}
use Rattle.dh_sample.specs.declared.answer.SampleFault.{SampleFault}
use Rattle.dh_sample.specs.declared.answer.SampleFault.TheVariants.{Engine, Store}

-- the answer at a moment to the request of a source, by a desk that has the sample alone
abbrev pub AnswersSample : ℕ → Option (List ℕ) → ℕ → List ℕ → Type 0
AnswersSample moment left status text =
    (after : World) × engine.AnswersSource moment left sample_world after status text

-- what the engine told, unless it was not asked
abbrev pub engine_told : Result Done SampleFault → Option (Result Done EngineFault)
engine_told (Ok done) = Some (Ok done)
engine_told (Err (Engine fault)) = Some (Err fault)
engine_told (Err Store) = None

-- what was written, by what the engine told; nothing where it was not asked
abbrev pub WritesTold
    : (ℕ → List ℕ → Type 0) → Option (List ℕ) → Option (List ℕ)
    → Option (Result Done EngineFault) → Type 0
WritesTold IsAnswer held now None = now ≡ held
WritesTold IsAnswer held now (Some result) = engine.WritesAnswer IsAnswer held now result

-- whether the engine told that the reader failed
abbrev pub reader_failed : Option (Result Done EngineFault) → Bool
reader_failed None = false
reader_failed (Some result) = engine.reader_failed result

-- whether the engine told that the writer failed
abbrev pub writer_failed : Option (Result Done EngineFault) → Bool
writer_failed None = false
writer_failed (Some result) = engine.writer_failed result
