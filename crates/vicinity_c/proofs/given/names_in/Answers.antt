use Rattle.std.proofs.Common.{rules, ◌≡◌, [], ◌∷◌, map, string_bytes, ◌++◌, arith}
use Rattle.std.proofs.lemmas.Grind.{common_steps}
use Rattle.std.proofs.lemmas.List.{map-append}
use Rattle.std.specs.Str.{IsUtf8}
use Rattle.vicinity_c.proofs.NamesInLines.{AreCut-more, AreNames-none, AreNames-utf8}
use Rattle.vicinity_c.proofs.given.names_in.Goals as goal

pub loop-name-preserved : goal.loop-name-preserved
loop-name-preserved c = record {
  text = search rules;
  cut =
      let utf8 : IsUtf8 c.in-Some.name.now = search rules in
      let more = AreCut-more c.args.bytes.now c.loop-name.rest.now (map string_bytes c.loop-name.names.items) (c.in-Some.name, c.in-Some.others) c.in-Some.ensures.cases utf8 c.loop-name.invariant.cut in
      let e : map string_bytes c.push.new.self.items ≡ map string_bytes c.loop-name.names.items ++ c.in-Some.name.now ∷ [] = grind (arith, common_steps, map-append) in
      rw e more;
}

pub returns-in_default : goal.returns-in_default
returns-in_default c names h = c.in_default.ensures.cases.0 (AreNames-utf8 _ names h)

pub returns-else-is_empty : goal.returns-else-is_empty
returns-else-is_empty c names h =
    let more = c.loop-name.invariant.cut.others names h in
    let none = AreNames-none _ more.0 c.in_default-split_once.ensures.cases more.1 in
    grind (arith, common_steps)
