use Rattle.std.proofs.Common.{◌≡◌, ◌∙◌, true, sym, map, string_bytes}
use Rattle.std.proofs.lemmas.Bool.{true≢false}
use Rattle.clap.specs.declared.error.kind.ErrorKind.TheVariants.{OutOfMemory}
use Rattle.dh_lines.proofs.LineLemmas.{matched, unmatched, stays_docs}
use Rattle.dh_lines.proofs.lines.read_words.Goals as goal

pub returns-in-Ok : goal.returns-in-Ok
returns-in-Ok c =
    let tried = c.in-Ok.ensures in
    let before = c.args.program.now in
    let after = c.try_get_matches_from_mut.new.self in
    record {
      matches = matched before after (map string_bytes c.args.words.now) c.in-Ok.matches
          c.requires tried.stays tried.fails tried.ok.2 tried.kinds;
      stands = stays_docs before after c.requires tried.stays tried.after;
    }

pub returns-then-eq-clause-stands : goal.returns-then-eq-clause-stands
returns-then-eq-clause-stands c =
    let tried = c.try_get_matches_from_mut.ensures in
    let after = c.try_get_matches_from_mut.new.self in
    stays_docs c.args.program.now after c.requires tried.stays tried.after

pub returns : goal.returns
returns c =
    let tried = c.in-Err.ensures in
    let before = c.args.program.now in
    let after = c.try_get_matches_from_mut.new.self in
    record {
      matches = unmatched before after (map string_bytes c.args.words.now) c.in-Err.error
          c.requires tried.stays tried.fails tried.kinds
          (λ memory.
          let same : c.kind.result ≡ OutOfMemory = c.kind.ensures ∙ memory in
          let is_memory : c.eq.result ≡ true = rw same at c.eq.ensures in
          true≢false (sym is_memory ∙ c.if-eq.false));
      stands = stays_docs before after c.requires tried.stays tried.after;
    }
