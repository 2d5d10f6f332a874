use Rattle.clap.specs.declared.parser.matches.ArgMatches.TheViews.{out-ArgMatches}
use Rattle.dh_lines.proofs.LineLemmas.{subcommand_found}
use Rattle.dh_lines.proofs.lines.read_line.Goals as goal

pub returns-in-Some : goal.returns-in-Some
returns-in-Some c =
    subcommand_found (out-ArgMatches c.args.matches.now).subcommand c.in-Some.name.now _
    c.read_named.result c.in-Some.ensures.name c.in-Some.ensures.rows c.read_named.ensures
