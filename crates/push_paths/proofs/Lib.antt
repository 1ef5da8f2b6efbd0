mod PathLaws
mod Prefixes
