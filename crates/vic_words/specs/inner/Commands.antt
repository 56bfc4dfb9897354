-- The commands, as they are declared to clap.
use Rattle.std.specs.Prelude.{Bool, true, false, Some, codes}
use Rattle.clap.specs.Words.{App, Rule, Text, new_app, new_rule, with_rule, with_subcommand}
use Rattle.clap.specs.Lexer.{usize_max}
use Rattle.clap.specs.declared.builder.action.ArgAction.TheVariants.{Set, Append}

-- one operand
abbrev pub one_operand : Text → Bool → Rule
one_operand id required = record (new_rule id) { action = Some Set; required = required }

-- one operand or more
abbrev pub operands : Rule
operands = record (new_rule (codes "words")) {
  action = Some Append;
  range = Some (record { start_inclusive = 1; end_inclusive = usize_max });
  required = true;
}

-- a command with one operand
abbrev pub operand_command : Text → Text → Bool → App
operand_command name id required = with_rule (new_app name) (one_operand id required)

-- a command with one or more words
abbrev pub words_command : Text → App
words_command name = with_rule (new_app name) operands

-- the program without commands
abbrev pub program : App
program = record (new_app (codes "vicinity")) {
  top = record (new_app (codes "vicinity")).top {
    disable_help_flag = true;
    disable_help_subcommand = true;
  };
}

-- one more command, over a file or standard input
abbrev pub with_file_command : App → Text → App
with_file_command program name =
    with_subcommand program (operand_command name (codes "file") false).top

-- the program with its commands up to this one
abbrev pub up_to_json : App
up_to_json =
    with_file_command (with_file_command (with_file_command (with_file_command (with_file_command
    (with_file_command program (codes "check")) (codes "simulate")) (codes "explain"))
    (codes "report")) (codes "margin")) (codes "json")

abbrev pub up_to_reconcile : App
up_to_reconcile = with_subcommand
    (with_subcommand up_to_json (operand_command (codes "frame") (codes "hex") true).top)
    (words_command (codes "reconcile")).top

abbrev pub up_to_collection : App
up_to_collection = with_subcommand
    (with_subcommand up_to_reconcile (words_command (codes "survey")).top)
    (words_command (codes "collection")).top

-- the program
abbrev pub commands : App
commands = with_subcommand
    (with_subcommand up_to_collection (words_command (codes "json-collection")).top)
    (words_command (codes "spell")).top
