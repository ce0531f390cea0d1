-- The commands of the small base, and what is added.
-- Source: this project's own.
use Rattle.std.specs.Prelude.{List, [], ◌∷◌, Option, codes}
use Rattle.lt_definitions.specs.Types.{Chars, bool, fun}
use Rattle.lt_definitions.specs.Items.{const_item, axiom_item}
use Rattle.lt_texts.specs.Commands.{Command, item_command, law_command}
use Rattle.lt_transport_rows.specs.Computing.{Told, tv, cn, bn, ap, lm, untold}

-- the commands of the small base
abbrev pub base_commands : List (Command × Option Told)
base_commands = untold (item_command (const_item (codes "rel_fun") (fun (fun (tv "a") (fun (tv "c") bool)) (fun (fun (tv "b") (fun (tv "d") bool)) (fun (fun (tv "a") (tv "b")) (fun (fun (tv "c") (tv "d")) bool))))))
    ∷ untold (item_command (axiom_item (codes "rel_fun_app") (ap (cn "all" ((fun (tv "a") (fun (tv "c") bool)) ∷ [])) (lm "x0" (fun (tv "a") (fun (tv "c") bool)) (ap (cn "all" ((fun (tv "b") (fun (tv "d") bool)) ∷ [])) (lm "x1" (fun (tv "b") (fun (tv "d") bool)) (ap (cn "all" ((fun (tv "a") (tv "b")) ∷ [])) (lm "x2" (fun (tv "a") (tv "b")) (ap (cn "all" ((fun (tv "c") (tv "d")) ∷ [])) (lm "x3" (fun (tv "c") (tv "d")) (ap (cn "all" ((tv "a") ∷ [])) (lm "x4" (tv "a") (ap (cn "all" ((tv "c") ∷ [])) (lm "x5" (tv "c") (ap (ap (cn "imp" ([])) (ap (ap (ap (ap (cn "rel_fun" ((tv "a") ∷ (tv "c") ∷ (tv "b") ∷ (tv "d") ∷ [])) (bn "x0")) (bn "x1")) (bn "x2")) (bn "x3"))) (ap (ap (cn "imp" ([])) (ap (ap (bn "x0") (bn "x4")) (bn "x5"))) (ap (ap (bn "x1") (ap (bn "x2") (bn "x4"))) (ap (bn "x3") (bn "x5")))))))))))))))))))
    ∷ untold (law_command (codes "rel_fun_app") (codes "rel_fun_app"))
    ∷ untold (item_command (axiom_item (codes "rel_fun_abs") (ap (cn "all" ((fun (tv "a") (fun (tv "c") bool)) ∷ [])) (lm "x0" (fun (tv "a") (fun (tv "c") bool)) (ap (cn "all" ((fun (tv "b") (fun (tv "d") bool)) ∷ [])) (lm "x1" (fun (tv "b") (fun (tv "d") bool)) (ap (cn "all" ((fun (tv "a") (tv "b")) ∷ [])) (lm "x2" (fun (tv "a") (tv "b")) (ap (cn "all" ((fun (tv "c") (tv "d")) ∷ [])) (lm "x3" (fun (tv "c") (tv "d")) (ap (ap (cn "imp" ([])) (ap (cn "all" ((tv "a") ∷ [])) (lm "x4" (tv "a") (ap (cn "all" ((tv "c") ∷ [])) (lm "x5" (tv "c") (ap (ap (cn "imp" ([])) (ap (ap (bn "x0") (bn "x4")) (bn "x5"))) (ap (ap (bn "x1") (ap (bn "x2") (bn "x4"))) (ap (bn "x3") (bn "x5"))))))))) (ap (ap (ap (ap (cn "rel_fun" ((tv "a") ∷ (tv "c") ∷ (tv "b") ∷ (tv "d") ∷ [])) (bn "x0")) (bn "x1")) (bn "x2")) (bn "x3")))))))))))))
    ∷ untold (law_command (codes "rel_fun_abs") (codes "rel_fun_abs"))
    ∷ untold (item_command (axiom_item (codes "rel_fun_eq") (ap (ap (cn "eq" ((fun (fun (tv "a") (tv "b")) (fun (fun (tv "a") (tv "b")) bool)) ∷ [])) (ap (ap (cn "rel_fun" ((tv "a") ∷ (tv "a") ∷ (tv "b") ∷ (tv "b") ∷ [])) (cn "eq" ((tv "a") ∷ []))) (cn "eq" ((tv "b") ∷ [])))) (cn "eq" ((fun (tv "a") (tv "b")) ∷ [])))))
    ∷ untold (law_command (codes "rel_fun_eq") (codes "rel_fun_eq"))
    ∷ []

-- their summary lines
abbrev pub base_lines : Chars
base_lines = codes "const rel_fun : (fun (fun 'a (fun 'c bool)) (fun (fun 'b (fun 'd bool)) (fun (fun 'a 'b) (fun (fun 'c 'd) bool))))\naxiom rel_fun_app : (all[(fun 'a (fun 'c bool))] (\\x0 (fun 'a (fun 'c bool)) (all[(fun 'b (fun 'd bool))] (\\x1 (fun 'b (fun 'd bool)) (all[(fun 'a 'b)] (\\x2 (fun 'a 'b) (all[(fun 'c 'd)] (\\x3 (fun 'c 'd) (all['a] (\\x4 'a (all['c] (\\x5 'c (imp (rel_fun['a 'c 'b 'd] %x0 %x1 %x2 %x3) (imp (%x0 %x4 %x5) (%x1 (%x2 %x4) (%x3 %x5))))))))))))))))\naxiom rel_fun_abs : (all[(fun 'a (fun 'c bool))] (\\x0 (fun 'a (fun 'c bool)) (all[(fun 'b (fun 'd bool))] (\\x1 (fun 'b (fun 'd bool)) (all[(fun 'a 'b)] (\\x2 (fun 'a 'b) (all[(fun 'c 'd)] (\\x3 (fun 'c 'd) (imp (all['a] (\\x4 'a (all['c] (\\x5 'c (imp (%x0 %x4 %x5) (%x1 (%x2 %x4) (%x3 %x5))))))) (rel_fun['a 'c 'b 'd] %x0 %x1 %x2 %x3))))))))))\naxiom rel_fun_eq : (eq[(fun (fun 'a 'b) (fun (fun 'a 'b) bool))] (rel_fun['a 'a 'b 'b] eq['a] eq['b]) eq[(fun 'a 'b)])\n"
