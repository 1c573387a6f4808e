-- The lines that tell a graph's first fault.
use Rattle.std.specs.Prelude.{◌≡◌, ℕ, List, [], ◌∷◌, ◌++◌, codes}
use Rattle.std.specs.Fmt.{decimal}
use Rattle.yt_graph.specs.declared.place.Place.{Place}
use Rattle.yt_graph.specs.Labels.{out_name, port_label}
use Rattle.yt_graph.specs.Picture.{GraphTree}
use Rattle.yt_cost.specs.declared.fault.CostFault as cost
use Rattle.yt_cost.specs.declared.fault.CostFault.{CostFault}
use Rattle.yt_rates.specs.declared.fault.RateFault as rate
use Rattle.yt_rates.specs.declared.fault.RateFault.{RateFault}
use Rattle.yt_lexer.specs.declared.token.LexFault as lex
use Rattle.yt_lexer.specs.declared.token.LexFault.{LexFault}
use Rattle.yt_name_faults.specs.declared.fault.LimitKind as limit
use Rattle.yt_name_faults.specs.declared.fault.LimitKind.{LimitKind}
use Rattle.yt_name_faults.specs.declared.fault.NameFault as name
use Rattle.yt_name_faults.specs.declared.fault.NameFault.{NameFault}

-- a line about a place: what comes before the line and the column, and what comes behind
abbrev pub placed_line : List ℕ → Place → List ℕ → List ℕ
placed_line front p back = front ++ (32 ∷ decimal p.line ++ (32 ∷ decimal p.col ++ back))

-- the text is the line of a fault of tokens; want of memory has none
abbrev pub IsLexLine : List ℕ → LexFault → Type 0
IsLexLine text (lex.TheVariants.BadByte p) = text ≡ placed_line (codes "graph lex") p (codes " bad\n")
IsLexLine text (lex.TheVariants.LongName p) = text ≡ placed_line (codes "graph lex") p (codes " long\n")
IsLexLine text (lex.TheVariants.BigNumber p) = text ≡ placed_line (codes "graph lex") p (codes " big\n")
IsLexLine text lex.TheVariants.Memory = ⊥

-- the line of a fault of syntax
abbrev pub syntax_line : Place → List ℕ
syntax_line p = placed_line (codes "graph syntax") p (codes "\n")

-- what there is too much of, behind a place
abbrev pub limit_end : LimitKind → List ℕ
limit_end limit.TheVariants.Inputs = codes " inputs\n"
limit_end limit.TheVariants.Outputs = codes " outputs\n"
limit_end limit.TheVariants.Resources = codes " resources\n"
limit_end limit.TheVariants.Processes = codes " processes\n"
limit_end limit.TheVariants.Ports = codes " ports\n"
limit_end limit.TheVariants.Variables = codes " variables\n"
limit_end limit.TheVariants.Outs = codes " outs\n"
limit_end limit.TheVariants.Locals = codes " locals\n"
limit_end limit.TheVariants.Width = codes " width\n"
limit_end limit.TheVariants.Period = codes " period\n"
limit_end limit.TheVariants.Every = codes " every\n"
limit_end limit.TheVariants.Turns = codes " turns\n"

-- the text is the line of a fault of names; want of memory has none
abbrev pub IsNameLine : List ℕ → NameFault → Type 0
IsNameLine text (name.TheVariants.Unknown p) = text ≡ placed_line (codes "graph name") p (codes " unknown\n")
IsNameLine text (name.TheVariants.Kind p) = text ≡ placed_line (codes "graph name") p (codes " kind\n")
IsNameLine text (name.TheVariants.Twice p) = text ≡ placed_line (codes "graph name") p (codes " twice\n")
IsNameLine text (name.TheVariants.Width p) = text ≡ placed_line (codes "graph name") p (codes " width\n")
IsNameLine text (name.TheVariants.Limit p kind) = text ≡ placed_line (codes "graph limit") p (limit_end kind)
IsNameLine text (name.TheVariants.Cycle p) = text ≡ placed_line (codes "graph name") p (codes " cycle\n")
IsNameLine text name.TheVariants.Memory = ⊥

-- the text is the line of a fault of costs, `graph cost PORT TICKS` or `graph sends PORT OUT`; want of memory has none
abbrev pub IsCostLine : List ℕ → GraphTree → CostFault → Type 0
IsCostLine text graph (cost.TheVariants.Long port ticks) = text ≡ codes "graph cost " ++ (port_label graph port ++ (32 ∷ decimal ticks ++ 10 ∷ []))
IsCostLine text graph (cost.TheVariants.Sends port out) = text ≡ codes "graph sends " ++ (port_label graph port ++ (32 ∷ out_name graph port out ++ 10 ∷ []))
IsCostLine text graph cost.TheVariants.Memory = ⊥

-- the text is the line of a fault of rates, `graph rate PORT over PERIOD`, `graph rate PORT.OUT zero` or `graph rate PORT span`; want of memory has none
abbrev pub IsRateLine : List ℕ → GraphTree → RateFault → Type 0
IsRateLine text graph (rate.TheVariants.Over port period) = text ≡ codes "graph rate " ++ (port_label graph port ++ (codes " over " ++ (decimal period ++ 10 ∷ [])))
IsRateLine text graph (rate.TheVariants.Zero port out) = text ≡ codes "graph rate " ++ (port_label graph port ++ (46 ∷ out_name graph port out ++ codes " zero\n"))
IsRateLine text graph (rate.TheVariants.Span port) = text ≡ codes "graph rate " ++ (port_label graph port ++ codes " span\n")
IsRateLine text graph rate.TheVariants.Memory = ⊥
