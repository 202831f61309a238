mod EidsOnce
mod DueByDays
mod Grouping
mod NamedMods
mod NodesFound
mod ShowingLaws
mod Turning
