-- The `T` lines of a network.
use Rattle.base_laws.proofs.Kit.{◌≡◌, ◌∙◌, List, ℕ, ◌<◌, drop, get_or, get_or-take, get_or-drop}
use Rattle.text_reader.specs.Lines.{Line, no_line}
use Rattle.model.specs.Network.{tram_count, tram_line, trams}
use Rattle.model.specs.Rules.{tram}

module _ (network : List Line) where
  pub tram-at : (k : ℕ) → k < tram_count network → get_or (trams network) k no_line ≡ tram network k
  unfolding trams tram_line
  tram-at k l = get_or-take (tram_count network) (drop 1 network) k no_line l ∙ get_or-drop 1 network k no_line
