-- A page as definitions speak of it: the fields of its headers, and its rows as a list. Assumes nothing.
use Rattle.std.specs.Prelude.{List, [], take, pos, None}
use Rattle.plan.specs.declared.lawful.Plan.{Plan}
use Rattle.plan.specs.declared.layout.Row.{Row}
use Rattle.plan.specs.declared.page.PageHeader.{PageHeader}
use Rattle.plan.specs.declared.page.Resolution.{Resolution}

pub record Page : Type 0 where
  pub header : PageHeader
  pub resolution : Resolution
  pub rows : List Row

-- what a plan says
abbrev pub page_of : Plan → Page
page_of p = record { header = p.header; resolution = p.resolution; rows = take p.count p.rows }

-- the built-in plan: a page of one point, with no layout object
abbrev pub blank_header : PageHeader
blank_header = record { pageid = 0; pheight = 1; pwidth = 1; or = 0; pcolor = 0; collection = None }

abbrev pub blank_resolution : Resolution
blank_resolution = record { vrdn = 1; vrdd = 1; hrdn = 1; hrdd = 1; vrde = pos 0; hrde = pos 0 }

abbrev pub blank_page : Page
blank_page = record { header = blank_header; resolution = blank_resolution; rows = [] }
