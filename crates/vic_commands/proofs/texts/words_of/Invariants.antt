use Rattle.std.proofs.Common.{◌≡◌, All, map, string_bytes, take}
use Rattle.std.specs.Str.{IsUtf8}
use Rattle.vic_commands.proofs.texts.words_of.Given as goal

-- the words so far are the texts so far
abbrev pub invariant-loop-text : goal.invariant-loop-text
invariant-loop-text l = record {
  words : map string_bytes l.words.items ≡ take l.text-index (map (λ t. t.now) l.texts);
  utf8 : All IsUtf8 (take l.text-index (map (λ t. t.now) l.texts));
}
